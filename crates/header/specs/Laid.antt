-- A header as its bytes, and the record that is put together of them: it is the record of its tile, no other is, and it is of bytes.
-- Assumes nothing.
use Rattle.std.specs.Prelude.{◌≡◌, refl, List, [], ◌∷◌, ◌++◌, ℕ, zero, suc, ◌+◌, ◌/◌, ◌%◌, ◌≤◌, ◌<◌, length, get_or, take, drop, Option, Some, None}
use Rattle.std.proofs.Common.{sym, ap, ap₂, ◌∙◌, arith, length-append, take-append-drop, length-take-le, get_or-take, drop_at, drop-cons}
use Rattle.std.proofs.Math.ListN.{get_or-append}
use Rattle.code.specs.declared.Line.{Line}
use Rattle.code.specs.Kind.{taken_slope}
use Rattle.code.specs.Tile.{Bytes}
use Rattle.flag.specs.Flag.{flag_number, flag_of, Short}
use Rattle.flag.specs.Back.{flag_back, number_back, number_fits}
use Rattle.record.specs.Number.{big_endian}
use Rattle.header.specs.Header.{byte_of, Marked, kind_of, header_length, flag_at, Carried}
use Rattle.header.specs.Record.{Fit, RecordOf}
use Rattle.header.specs.declared.Mark.{Mark}
use Rattle.header.specs.declared.Mark.TheVariants.{Plain, Flagged, Old}
use Rattle.header.specs.declared.Header.{Header}

-- each mark as a number of two bytes
abbrev pub mark_number : Mark → ℕ
mark_number Plain = 0xD55D
mark_number Flagged = 0xD55E
mark_number Old = 0x5DD5

pub mark_fits : (m : Mark) → mark_number m < 65536
mark_fits Plain = omega arith
mark_fits Flagged = omega arith
mark_fits Old = omega arith

-- what a header says fits its places
pub record Fits (h : Header) : Type 0 where
  pub size : h.p < 65536
  pub slope : h.l < 65536
  pub number : h.number < 4294967296
  pub first : Short h.first
  pub second : Short h.second

-- the bytes of a header: the mark, the numbers and the flags, each with its high byte first. In a record without flags they end with the
-- tenth
abbrev pub header_bytes : Header → List ℕ
header_bytes h =
    mark_number h.mark / 256
    ∷ mark_number h.mark % 256
    ∷ h.p / 256
    ∷ h.p % 256
    ∷ h.l / 256
    ∷ h.l % 256
    ∷ h.number / 16777216
    ∷ h.number / 65536 % 256
    ∷ h.number / 256 % 256
    ∷ h.number % 256
    ∷ flag_number h.first / 256
    ∷ flag_number h.first % 256
    ∷ flag_number h.second / 256
    ∷ flag_number h.second % 256
    ∷ []

-- of these fourteen ten at least count
pub counted : (m : Mark) → (10 ≤ header_length m) × (header_length m ≤ 14)
counted Plain = omega arith
counted Flagged = omega arith
counted Old = omega arith

-- those that count
abbrev pub front : Header → List ℕ
front h = take (header_length h.mark) (header_bytes h)

pub front_long : (h : Header) → length (front h) ≡ header_length h.mark
front_long h = length-take-le (header_length h.mark) (header_bytes h) (counted h.mark).1

-- the record that is put together: they, and the tile's bytes behind them
abbrev pub made : Header → List ℕ → List ℕ
made h tile = front h ++ tile

-- ---- what may be laid

-- a flag that a record may carry has a short number, since no tile has many lines
pub carried_short : (m : Mark) (p : ℕ) (f : Option Line) → p ≤ 257 → Carried m p f → Short f
carried_short m p None h c = tt
carried_short Plain p (Some a) h c = absurd c
carried_short Flagged p (Some a) h c = omega arith
carried_short Old p (Some a) h c = absurd c

-- so what may be laid fits its places
pub fit_fits : {h : Header} {tile : List ℕ} → Fit h tile → Fits h
fit_fits {h} {tile} fit =
    let p = fit.size.high in
    let slope = taken_slope (kind_of h.mark) h.p h.l fit.size fit.slope in
    record {
      size = omega (arith, p);
      slope = omega (arith, p, slope.high);
      number = fit.number;
      first = carried_short h.mark h.p h.first p fit.flags.0;
      second = carried_short h.mark h.p h.second p fit.flags.1;
    }

-- ---- the record is of bytes

-- each of a list's numbers is a byte
abbrev AllBytes : List ℕ → Type 0
AllBytes [] = Unit {0}
AllBytes (x ∷ xs) = (x < 256) × AllBytes xs

all_bytes : (xs : List ℕ) → AllBytes xs → Bytes xs
all_bytes [] a k = omega arith
all_bytes (x ∷ xs) a zero = a.0
all_bytes (x ∷ xs) a (suc k) = all_bytes xs a.1 k

-- the first of some bytes are bytes, and so are bytes behind bytes
take_bytes : (n : ℕ) (xs : List ℕ) → Bytes xs → Bytes (take n xs)
take_bytes zero xs b k = omega arith
take_bytes (suc n) [] b k = omega arith
take_bytes (suc n) (x ∷ xs) b zero = b 0
take_bytes (suc n) (x ∷ xs) b (suc k) = take_bytes n xs (λ j. b (suc j)) k

append_bytes : (xs ys : List ℕ) → Bytes xs → Bytes ys → Bytes (xs ++ ys)
append_bytes [] ys a b k = b k
append_bytes (x ∷ xs) ys a b zero = a 0
append_bytes (x ∷ xs) ys a b (suc k) = append_bytes xs ys (λ j. a (suc j)) b k

-- what fits its places is of bytes
header_bytes_lem : {h : Header} → Fits h → Bytes (header_bytes h)
header_bytes_lem {h} fits =
    all_bytes (header_bytes h)
    (omega (arith, mark_fits h.mark, number_fits h.first fits.first, number_fits h.second fits.second))

-- so the record is, if the tile is
pub made_bytes : {h : Header} {tile : List ℕ} → Fit h tile → Bytes tile → Bytes (made h tile)
made_bytes {h} {tile} fit b =
    append_bytes (front h) tile (take_bytes (header_length h.mark) (header_bytes h) (header_bytes_lem (fit_fits fit))) b

-- ---- the record is that of the tile

-- two bytes that are those of a mark's number are the mark, and two that are those of a flag's number are the flag
number_mark : (m : Mark) (xs : List ℕ) → byte_of xs 0 0 ≡ mark_number m / 256 → byte_of xs 0 1 ≡ mark_number m % 256 → Marked m xs 0
number_mark Plain xs a b = (a, b)
number_mark Flagged xs a b = (a, b)
number_mark Old xs a b = (a, b)

number_flag : (m : Mark) (p : ℕ) (f : Option Line) (xs : List ℕ) (n : ℕ) → Carried m p f → Short f → n + 1 < 14
    → (n < header_length m → byte_of xs 0 n ≡ flag_number f / 256) → (n + 1 < header_length m → byte_of xs 0 (n + 1) ≡ flag_number f % 256)
    → f ≡ flag_at m xs 0 n
number_flag Plain p None xs n c s within high low = refl
number_flag Plain p (Some a) xs n c s within high low = absurd c
number_flag Flagged p f xs n c s within high low = sym (flag_back f s) ∙ ap flag_of (omega (arith, high (omega arith), low (omega arith)))
number_flag Old p None xs n c s within high low = refl
number_flag Old p (Some a) xs n c s within high low = absurd c

module _ (h : Header) (tile : List ℕ) where
  -- before the tile's bytes stand those of the header, ten at least
  made_byte : (n : ℕ) → n < header_length h.mark → byte_of (made h tile) 0 n ≡ get_or (header_bytes h) n 0
  made_byte n less =
      ap (λ (k : ℕ). get_or (made h tile) k 0) (omega arith)
      ∙ get_or-append (front h) tile 0 n (omega (arith, front_long h))
      ∙ get_or-take (header_length h.mark) (header_bytes h) n 0 less

  first_byte : (n : ℕ) → n < 10 → byte_of (made h tile) 0 n ≡ get_or (header_bytes h) n 0
  first_byte n less = made_byte n (omega (arith, (counted h.mark).0))

  -- A RECORD THAT IS PUT TOGETHER is the record of its tile
  pub made_record : Fit h tile → RecordOf h tile (made h tile)
  made_record fit =
      let fits = fit_fits fit in
      record {
        header = record {
          marked = number_mark h.mark (made h tile) (first_byte 0 (omega arith)) (first_byte 1 (omega arith));
          whole = omega (arith, length-append (front h) tile, front_long h);
          size = omega (arith, first_byte 2 (omega arith), first_byte 3 (omega arith));
          slope = omega (arith, first_byte 4 (omega arith), first_byte 5 (omega arith));
          number = omega (arith, first_byte 6 (omega arith), first_byte 7 (omega arith), first_byte 8 (omega arith), first_byte 9 (omega arith));
          first = number_flag h.mark h.p h.first (made h tile) 10 fit.flags.0 fits.first (omega arith) (made_byte 10) (made_byte 11);
          second = number_flag h.mark h.p h.second (made h tile) 12 fit.flags.1 fits.second (omega arith) (made_byte 12) (made_byte 13);
        };
        of_bytes = λ n less. omega (arith, made_byte n less, header_bytes_lem fits n);
        behind = drop_at (front h) tile (header_length h.mark) (front_long h);
      }

-- ---- a tile has no other

-- n bytes of one list, from the k-th on, are those of the other
abbrev Alike : ℕ → ℕ → List ℕ → List ℕ → Type 0
Alike zero k xs ys = Unit {0}
Alike (suc n) k xs ys = (get_or xs k 0 ≡ get_or ys k 0) × Alike n (suc k) xs ys

-- where these are all alike, they are one list
alike_taken : (n k : ℕ) (xs ys : List ℕ) → k + n ≤ length xs → k + n ≤ length ys → Alike n k xs ys → take n (drop k xs) ≡ take n (drop k ys)
alike_taken zero k xs ys a b e = refl
alike_taken (suc n) k xs ys a b e =
    ap (take (suc n)) (drop-cons xs k 0 (omega arith))
    ∙ ap₂ ◌∷◌ e.0 (alike_taken n (suc k) xs ys (omega arith) (omega arith) e.1)
    ∙ ap (take (suc n)) (sym (drop-cons ys k 0 (omega arith)))

-- what stands as a mark has the bytes of its number, and so what stands as a flag
mark_number_lem : (m : Mark) (xs : List ℕ) → Marked m xs 0 → (byte_of xs 0 0 ≡ mark_number m / 256) × (byte_of xs 0 1 ≡ mark_number m % 256)
mark_number_lem Plain xs a = a
mark_number_lem Flagged xs a = a
mark_number_lem Old xs a = a

flag_number_lem : (f : Option Line) (xs : List ℕ) (n : ℕ) → f ≡ flag_at Flagged xs 0 n → flag_number f ≡ big_endian (byte_of xs 0 n) (byte_of xs 0 (n + 1))
flag_number_lem f xs n e = ap flag_number e ∙ number_back (big_endian (byte_of xs 0 n) (byte_of xs 0 (n + 1)))

module _ {h : Header} {tile bytes : List ℕ} (of : RecordOf h tile bytes) where
  -- so a record begins with the bytes of its header, be it ten ..
  ten_alike : Alike 10 0 bytes (header_bytes h)
  ten_alike =
      let mark = mark_number_lem h.mark bytes of.header.marked in
      let byte : (n : ℕ) → n < 10 → byte_of bytes 0 n < 256 = λ n less. of.of_bytes n (omega (arith, (counted h.mark).0)) in
      omega (
        arith,
        mark.0,
        mark.1,
        of.header.size,
        of.header.slope,
        of.header.number,
        byte 2 (omega arith),
        byte 3 (omega arith),
        byte 4 (omega arith),
        byte 5 (omega arith),
        byte 6 (omega arith),
        byte 7 (omega arith),
        byte 8 (omega arith),
        byte 9 (omega arith),
      )

  -- .. or, in a flagged one, four more
  all_alike : (m : Mark) → ((n : ℕ) → n < header_length m → byte_of bytes 0 n < 256) → h.first ≡ flag_at m bytes 0 10 → h.second ≡ flag_at m bytes 0 12
      → Alike (header_length m) 0 bytes (header_bytes h)
  all_alike Plain byte first second = ten_alike
  all_alike Flagged byte first second =
      omega (
        arith,
        ten_alike,
        flag_number_lem h.first bytes 10 first,
        flag_number_lem h.second bytes 12 second,
        byte 10 (omega arith),
        byte 11 (omega arith),
        byte 12 (omega arith),
        byte 13 (omega arith),
      )
  all_alike Old byte first second = ten_alike

  -- so a record is the one that is put together
  record_made : bytes ≡ made h tile
  record_made =
      let same = all_alike h.mark of.of_bytes of.header.first of.header.second in
      sym (take-append-drop (header_length h.mark) bytes)
      ∙ ap₂ ◌++◌ (alike_taken (header_length h.mark) 0 bytes (header_bytes h) of.header.whole (omega (arith, (counted h.mark).1)) same) of.behind

-- A TILE HAS ONE RECORD behind a header
pub record_once : {h : Header} {tile a b : List ℕ} → RecordOf h tile a → RecordOf h tile b → a ≡ b
record_once r s = record_made r ∙ sym (record_made s)
