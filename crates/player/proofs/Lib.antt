-- Lines: an outcome's line. Playing: what a request comes to, of an order with its buffers.
pub mod Lines
pub mod Playing
