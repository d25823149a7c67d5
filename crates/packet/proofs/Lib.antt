-- The laws: Found (a destination as a block; how many bytes are written). The theorem: PacketBack.
pub mod Found
pub mod PacketBack
