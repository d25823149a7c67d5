-- Playing: what a request comes to, of an order with its buffers.
pub mod Playing
