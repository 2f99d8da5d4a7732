-- Whether a tile is good, as the arrays of its sums tell. Assumes nothing.
use Rattle.std.specs.Prelude.{◌≡◌, List, ℕ, ◌*◌, ◌%◌, ◌<◌, Bool, true, false, not, Option, Some, None, is_some}
use Rattle.std.proofs.Common.{sym, ◌∙◌}
use Rattle.code.specs.Tile.{cell, sum, Good}
use Rattle.code.specs.Says.{Says}
use Rattle.code.specs.Turn.{turned, turn_first, good_turned}
use Rattle.walk.specs.Sums.{Summed, OtherAt, FirstOther, AllOne}

-- all sums are one byte exactly if the tile is good
pub one_good : (p l : ℕ) (x : List ℕ) → AllOne p (sum p 1 (cell p x)) (sum p l (cell p x)) → Good p l x
one_good p l x h = record { common = sum p 1 (cell p x) 0; first = h.first; second = h.second }

pub good_one : (p l : ℕ) (x : List ℕ) → 0 < p → Good p l x → AllOne p (sum p 1 (cell p x)) (sum p l (cell p x))
good_one p l x h g = record { first = λ t q. g.first t q ∙ sym (g.first 0 h); second = λ t q. g.second t q ∙ sym (g.first 0 h) }

-- and so it is if the turned tile's sums are
module _ (p l m : ℕ) (x : List ℕ) {A B : ℕ → ℕ} (inverse : l * m % p ≡ 1) (ha : Summed p 1 (turned (cell p x)) A) (hb : Summed p m (turned (cell p x)) B) where
  pub turned_good : AllOne p A B → Good p l x
  turned_good o = (good_turned p l m (cell p x) inverse).1 (record {
    common = A 0;
    first = λ t h. sym (ha t h) ∙ o.first t h;
    second = λ t h. sym (hb t h) ∙ o.second t h;
  })

  pub turned_one : 0 < p → Good p l x → AllOne p A B
  turned_one h g = let turn = (good_turned p l m (cell p x) inverse).0 g in record {
    first = λ t q. ha t q ∙ turn.first t q ∙ sym (ha 0 h ∙ turn.first 0 h);
    second = λ t q. hb t q ∙ turn.second t q ∙ sym (ha 0 h ∙ turn.first 0 h);
  }

-- of a good tile those of slope 1 are one byte, whatever the slope
pub good_first : (p l : ℕ) (x : List ℕ) {A : ℕ → ℕ} → 0 < p → Summed p 1 (turned (cell p x)) A → Good p l x → (t : ℕ) → t < p → A t ≡ A 0
good_first p l x h s g t q =
    s t q ∙ turn_first p t (cell p x) ∙ g.first t q ∙ sym (s 0 h ∙ turn_first p 0 (cell p x) ∙ g.first 0 h)

-- where the first other byte is looked for and there is one, they are not all alike, and where there is none they are
pub differ : (p c : ℕ) (A : ℕ → ℕ) (r : Option ℕ) → FirstOther p c A r → is_some r ≡ true → ((t : ℕ) → t < p → A t ≡ c) → ⊥
differ p c A None f e same = cc
differ p c A (Some r) f e same = f.other (same r f.lt)

pub alike : (p c : ℕ) (A : ℕ → ℕ) (r : Option ℕ) → FirstOther p c A r → is_some r ≡ false → (t : ℕ) → t < p → A t ≡ c
alike p c A None f e t h = f t h
alike p c A (Some r) f e t h = cc

-- all sums are one byte exactly if none of either slope is another than the first
pub one_none : {p r : ℕ} {A B : ℕ → ℕ} → AllOne p A B → OtherAt p (A 0) B r → ⊥
one_none o d = d.other (o.second _ d.lt)

-- so where those of slope 1 are one byte, whether there is none among the others says whether the tile is good
pub none_says : (p : ℕ) (A B : ℕ → ℕ) (r : Option ℕ) (none : Bool) {G : Type 0} → ((t : ℕ) → t < p → A t ≡ A 0) → FirstOther p (A 0) B r
    → is_some r ≡ not none → (AllOne p A B → G) → (G → AllOne p A B) → Says none G
none_says p A B None true first second e to back = to (record { first = first; second = second })
none_says p A B (Some r) true first other e to back = cc
none_says p A B None false first second e to back = cc
none_says p A B (Some r) false first other e to back = λ g. one_none (back g) other
