-- The theorems on which lines of a tile may be lost, proved from what stands in specs/.
pub mod Lost
