-- A test that antt computes at each number below a bound, and the law that carries it to each. Assumes nothing.
use Rattle.std.specs.Prelude.{Bool, true, false, ◌&&◌, ◌||◌, ℕ, zero, suc, ◌<◌, T}
use Rattle.std.proofs.Common.{subst, sym, ⊎_elim, eq-or-lt_of_le, le_of_suc-le-suc, not-suc-le-zero, lt-suc_self}
use Rattle.std.proofs.Math.Nat.{le_step}

pub and_left : (a b : Bool) → T (a && b) → T a
and_left true b t = tt
and_left false b t = t

pub and_right : (a b : Bool) → T (a && b) → T b
and_right true b t = t
and_right false b t = absurd t

pub and_both : (a b : Bool) → T a → T b → T (a && b)
and_both true b s t = t
and_both false b s t = s

pub or_either : {A : Type 0} (a b : Bool) → T (a || b) → (T a → A) → (T b → A) → A
or_either true b t f g = f tt
or_either false b t f g = g t

-- an implication: `if a then b`
abbrev pub imp : Bool → Bool → Bool
imp true b = b
imp false b = true

pub imp_on : (a b : Bool) → T (imp a b) → T a → T b
imp_on true b t s = t
imp_on false b t s = absurd s

pub to_imp : (a b : Bool) → (T a → T b) → T (imp a b)
to_imp true b f = f tt
to_imp false b f = tt

-- f passes at each number below n
unfoldable pub up_to : (ℕ → Bool) → ℕ → Bool
up_to f zero = true
up_to f (suc n) = f n && up_to f n

pub up_at : (f : ℕ → Bool) (n : ℕ) → T (up_to f n) → (k : ℕ) → k < n → T (f k)
unfolding up_to
up_at f zero t k h = absurd (not-suc-le-zero h)
up_at f (suc n) t k h =
    ⊎_elim (λ e. subst (λ (x : ℕ). T (f x)) (sym e) (and_left (f n) (up_to f n) t)) (λ lt. up_at f n (and_right (f n) (up_to f n) t) k lt)
    (eq-or-lt_of_le (le_of_suc-le-suc h))

pub at_up : (f : ℕ → Bool) (n : ℕ) → ((k : ℕ) → k < n → T (f k)) → T (up_to f n)
unfolding up_to
at_up f zero g = tt
at_up f (suc n) g = and_both (f n) (up_to f n) (g n (lt-suc_self n)) (at_up f n (λ k h. g k (le_step h)))
