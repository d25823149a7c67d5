-- Listener and client together: what one end writes and the other reads.
pub mod Handshake
