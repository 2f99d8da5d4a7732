-- Lemmas for the proofs of the status.
mod Fill
