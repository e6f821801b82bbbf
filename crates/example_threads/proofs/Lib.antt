mod Showing
mod Opening
