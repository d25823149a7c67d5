-- AES-128, as FIPS 197 defines it. In reading order: the field of bytes, the cipher, the key expansion; then how the code packs a column and looks up what a byte adds to it.
pub mod Field
pub mod Cipher
pub mod KeyExpansion
pub mod Packed
