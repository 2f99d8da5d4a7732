-- Wrong programs, each broken by a theorem: no such program meets its contract. Assumes nothing.
use Rattle.std.specs.Prelude.{◌≡◌, refl, List, [], ℕ, ◌≤◌, length, get_or, replicate, Option, Some, None}
use Rattle.std.proofs.Common.{ap, subst, arith}
use Rattle.code.specs.declared.Line.{Line}
use Rattle.code.specs.declared.Kind.{Kind}
use Rattle.code.specs.declared.Kind.TheVariants.{New}
use Rattle.code.specs.declared.Line.TheVariants.{Row}
use Rattle.size.specs.Answer as size
use Rattle.size.specs.Shams.{size_5, at_5_2}
use Rattle.promise.specs.Calls.{Admitted, TileLength}
use Rattle.promise.specs.Admit.{admits}
use Rattle.header.specs.Header.{kind_of, Carries}
use Rattle.header.specs.declared.Mark.{Mark}
use Rattle.header.specs.declared.Mark.TheVariants.{Plain, Flagged}
use Rattle.header.specs.declared.Header.{Header}
use Rattle.printer.specs.Lay.{laid, refused, Taken, record_length, LayTold, no_line, lays}
use Rattle.printer.specs.Laying.{taken_fit, laid_room, made_laid}
use Rattle.printer.specs.Once.{lay_told_once}

-- ---- what is right at p 5 and l 2

abbrev headed : Mark → Option Line → Header
headed m f = record { mark = m; p = 5; l = 2; number = 0; first = f; second = None }

abbrev zeros : ℕ → List ℕ
zeros n = replicate n 0

-- a tile of 16 bytes is taken
taken : (m : Mark) (f : Option Line) → New ≡ kind_of m → Taken (headed m f) (zeros 16) size.well
taken m f e = subst (λ (k : Kind). Admitted k 5 2 (TileLength 5 (zeros 16)) size.well) e (admits size_5 at_5_2 refl)

-- where its record carries its flags, and has room, it is laid
laid_in : (m : Mark) (f : Option Line) (n : ℕ) → New ≡ kind_of m → Carries (headed m f) → record_length (headed m f) (zeros 16) ≤ length (zeros n)
    → LayTold (headed m f) (zeros 16) (zeros n) (laid (record_length (headed m f) (zeros 16))) (laid_room (headed m f) (zeros 16) (zeros n))
laid_in m f n e c r = lays (taken m f e) c r (made_laid (headed m f) (zeros 16) (zeros n) (taken_fit (taken m f e) c (omega arith)) r)

-- a flagged record that carries row 0, in a room of just its 30 bytes
abbrev flagged : Header
flagged = headed Flagged (Some (Row 0))

flagged_laid : LayTold flagged (zeros 16) (zeros 30) (laid 30) (laid_room flagged (zeros 16) (zeros 30))
flagged_laid = laid_in Flagged (Some (Row 0)) 30 refl (omega arith, tt) (omega arith)

-- a plain one of 26 bytes, in a room of one more
abbrev plain : Header
plain = headed Plain None

plain_laid : LayTold plain (zeros 16) (zeros 27) (laid 26) (laid_room plain (zeros 16) (zeros 27))
plain_laid = laid_in Plain None 27 refl (tt, tt) (omega arith)

-- a plain one that is to carry row 0: refused 4, whatever the room
abbrev overloaded : Header
overloaded = headed Plain (Some (Row 0))

flag_refused : (room : List ℕ) → LayTold overloaded (zeros 16) room (refused 4) room
flag_refused room = no_line (taken Plain (Some (Row 0)) refl) (λ c. c.0)

-- ---- what is wrong

-- a flagged record that is laid with a header of 10 bytes
pub forgets_flags : (new : List ℕ) → LayTold flagged (zeros 16) (zeros 30) (laid 26) new → ⊥
forgets_flags new t =
    let e = (lay_told_once flagged (zeros 16) (zeros 30) (laid 26) (laid 30) new (laid_room flagged (zeros 16) (zeros 30)) t flagged_laid).0 in
    let z : ◌≡◌ {A = ℕ} 26 30 = cc in
    omega arith

-- a room that is refused where the record just fits it
pub refuses_just_fitting : (new : List ℕ) → LayTold flagged (zeros 16) (zeros 30) (refused 9) new → ⊥
refuses_just_fitting new t =
    let e = (lay_told_once flagged (zeros 16) (zeros 30) (refused 9) (laid 30) new (laid_room flagged (zeros 16) (zeros 30)) t flagged_laid).0 in
    let z : ◌≡◌ {A = ℕ} 0 1 = cc in
    omega arith

-- a flag that is dropped, where the record cannot carry it
pub drops_flag : (new : List ℕ) → LayTold overloaded (zeros 16) (zeros 26) (laid 26) new → ⊥
drops_flag new t =
    let e = (lay_told_once overloaded (zeros 16) (zeros 26) (laid 26) (refused 4) new (zeros 26) t (flag_refused (zeros 26))).0 in
    let z : ◌≡◌ {A = ℕ} 0 1 = cc in
    omega arith

-- a room that is looked at before the flags, and so is found too small
pub room_before_flag : (new : List ℕ) → LayTold overloaded (zeros 16) [] (refused 9) new → ⊥
room_before_flag new t =
    let e = (lay_told_once overloaded (zeros 16) [] (refused 9) (refused 4) new [] t (flag_refused [])).0 in
    let z : ◌≡◌ {A = ℕ} 9 4 = cc in
    omega arith

-- a record that is laid, and a byte behind it that is changed
pub touches_behind : (new : List ℕ) → get_or new 26 0 ≡ 1 → LayTold plain (zeros 16) (zeros 27) (laid 26) new → ⊥
touches_behind new one t =
    let e = (lay_told_once plain (zeros 16) (zeros 27) (laid 26) (laid 26) new (laid_room plain (zeros 16) (zeros 27)) t plain_laid).1 in
    omega (arith, one, ap (λ (x : List ℕ). get_or x 26 0) e)
