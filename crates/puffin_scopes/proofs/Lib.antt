mod Cuts
mod Slashes
mod Parts
mod Endings
mod NameRows
