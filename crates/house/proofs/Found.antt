-- What the first entry of a size in a table tells of that size, where the table keeps the rule.
use Rattle.std.specs.Prelude.{map}
use Rattle.std.specs.List.{find}
use Rattle.std.proofs.Common.{◌≡◌, List, [], ◌∷◌, ℕ, zero, suc, ◌<◌, length, Bool, true, false, nat_eq, arith, sym, refl, subst, Option, Some, option_map, eqb→eq, eq-eqb, ◌∙◌, cond, not-suc-le-zero, le_of_suc-le-suc, zero-lt-suc}
use Rattle.std.proofs.lemmas.Bool.{false≢true}
use Rattle.residue.specs.Size.{Size}
use Rattle.house.specs.House.{entry_at, HouseEntry, HouseSlope, HouseTable, SlopeTold, no_size, of_size}

-- the two columns of a table
abbrev pub sizes : List (ℕ × ℕ) → List ℕ
sizes t = map (λ e. e.0) t

abbrev pub slopes : List (ℕ × ℕ) → List ℕ
slopes t = map (λ e. e.1) t

-- the slope beside p
abbrev beside : List (ℕ × ℕ) → ℕ → Option ℕ
beside t p = option_map (λ e. e.1) (find (λ e. nat_eq e.0 p) t)

-- each entry is right
abbrev EachIn : List (ℕ × ℕ) → Type 0
EachIn t = (k : ℕ) → k < length (sizes t) → HouseEntry (entry_at (sizes t) k) (entry_at (slopes t) k)

-- p is not among the sizes
abbrev Lacks : List (ℕ × ℕ) → ℕ → Type 0
Lacks t p = (k : ℕ) → k < length (sizes t) → entry_at (sizes t) k ≡ p → ⊥

-- where the first entry has the size p it tells of p what the rule says, and where it has another the rest do
first_told : (b : Bool) (e : ℕ × ℕ) (t : List (ℕ × ℕ)) (p : ℕ) → nat_eq e.0 p ≡ b → HouseEntry e.0 e.1 → ((e.0 ≡ p → ⊥) → SlopeTold p (beside t p))
    → SlopeTold p (option_map (λ x. x.1) (cond b (Some e) (find (λ x. nat_eq x.0 p) t)))
first_told true e t p same right rest =
    let at : e.0 ≡ p = eqb→eq e.0 p (rw same tt) in
    of_size (subst Size at right.0) (subst (λ (x : ℕ). HouseSlope x e.1) at right.1)
first_told false e t p other right rest = rest (λ at. false≢true (sym other ∙ eq-eqb e.0 p at))

lacks_more : (e : ℕ × ℕ) (t : List (ℕ × ℕ)) (p : ℕ) → (e.0 ≡ p → ⊥) → Lacks t p → Lacks (e ∷ t) p
lacks_more e t p first rest zero h at = first at
lacks_more e t p first rest (suc k) h at = rest k (le_of_suc-le-suc h) at

told : (t : List (ℕ × ℕ)) (p : ℕ) → EachIn t → (Lacks t p → Size p → ⊥) → SlopeTold p (beside t p)
told [] p each every = no_size (every (λ k h e. absurd (not-suc-le-zero h)))
told (e ∷ t) p each every =
    first_told (nat_eq e.0 p) e t p refl (each 0 (zero-lt-suc _)) (λ first. told t p (λ k h. each (suc k) (omega arith)) (λ rest. every (lacks_more e t p first rest)))

-- what is found of p by a search from the first entry on
pub found : (t : List (ℕ × ℕ)) (p : ℕ) (r : Option (ℕ × ℕ)) → HouseTable (sizes t) (slopes t) → r ≡ find (λ e. nat_eq e.0 p) t
    → SlopeTold p (option_map (λ e. e.1) r)
found t p r h first = rw first (told t p h.each (h.every p))
