mod Among
mod Bits
