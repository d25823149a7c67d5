-- The theorem: Handshake. Opening and SynAck carry it, each one way of the exchange.
pub mod Handshake
pub mod Opening
pub mod SynAck
