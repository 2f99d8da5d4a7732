-- `listing::state` meets its contract: what is restored is a copy of the bytes.
use Rattle.std.proofs.Common.{◌≡◌, sym, ap, ◌∙◌, List, ◌++◌, ℕ, length, take, length-take-le, rules}
use lib.Seq.{take-append_seam}
use Rattle.listing.proofs.state.Goals as goal

-- bytes that were copied to the front are the first of all
copied : (words front rest : List ℕ) → front ≡ words → take (length words) (front ++ rest) ≡ words
copied words front rest e = ap (λ (l : List ℕ). take (length words) (l ++ rest)) e ∙ take-append_seam words rest

pub slice_bounds-restore-end-2 : goal.slice_bounds-restore-end-2
slice_bounds-restore-end-2 c =
    sym (length-take-le _ _ (search rules))

pub returns : goal.returns
returns c = record { new = _; told = rw (copied c.args.bytes.now _ _ c.copy_from_slice.ensures.after) at c.restore.ensures }
