-- A new reel of texts: what a size gives.
pub mod Plan
