-- WHAT A READER MUST BELIEVE: what is shown of a tile and of a reel, byte by byte: as lines of a listing (SPEC 8.1), as squares of a
-- drawing (SPEC 12.7), or as signs for a terminal (SPEC 12.8). In a form each @ stands for the next of the numbers beside it. Assumes
-- nothing.
use Rattle.std.specs.Prelude.{cond, List, [], ◌∷◌, ◌++◌, ℕ, ◌+◌, ◌-◌, ◌*◌, ◌/◌, ◌%◌, eqb, ltb, length, take}
use Prim.Native.Char.{code}
use Rattle.promise.specs.Answer.{Said, done, clean, cell, column, row, refused}
use Rattle.lettering.specs.Line.{ascii, lf, tile_line, end_line, stopped_line}
use Rattle.page.specs.Page.{right_aligned, filled}
use Rattle.picture.specs.declared.Form.{Form}
use Rattle.picture.specs.declared.Form.TheVariants.{Lines, Squares, Signs}
use Rattle.picture.specs.declared.tally.Tally.{Tally}

-- ---- places in the drawing

-- SPEC 12.7: how far across and how far down the k-th square is drawn
abbrev pub across : ℕ → ℕ
across k = 96 + 32 * (k % 24)

abbrev pub down : ℕ → ℕ
down k = 16 + 32 * (k / 24)

-- SPEC 12.7: how many rows n squares make, how high the drawing is, and how far down the first and the second row of the legend are drawn
abbrev pub rows : ℕ → ℕ
rows n = (n + 23) / 24

abbrev pub height : ℕ → ℕ
height n = 112 + 32 * rows n

abbrev pub upper : ℕ → ℕ
upper n = 32 + 32 * rows n

abbrev pub lower : ℕ → ℕ
lower n = upper n + 36

-- SPEC 12.7: how far along its square a line of a tile of size p is drawn. The formula is that of SPEC; a size below 3 or a line above
-- 65535 does not occur, and would be drawn at 0
unfoldable pub along : ℕ → ℕ → ℕ → ℕ
along most n p = cond (ltb p 3) 0 (cond (ltb 65535 n) 0 (most * n / (p - 2)))

-- ---- a square of the drawing

-- SPEC 12.7: what is refused is shown by a cross, but what is refused by 8 by a question mark
unfoldable pub refused_shape : ℕ → List ℕ
refused_shape n = cond (eqb n 8)
    (ascii "<path class=\"d\" d=\"M0 0h28v28h-28z\"/><path class=\"x\" d=\"M9 11c0-7 10-7 10-1c0 4-5 4-5 7m0 3v3\"/>")
    (ascii "<path class=\"r\" d=\"M0 0h28v28h-28z\"/><path class=\"x\" d=\"M6 6l16 16m0-16l-16 16\"/>")

-- SPEC 12.7: the shape of a tile of size p, by what comes of restoring it: a ground, and on it a dot for a cell, an upright bar for a
-- column, a level bar for a row, or a small square for filled
unfoldable pub shape : ℕ → Said → List ℕ
shape p clean = ascii "<path class=\"k\" d=\"M0 0h28v28h-28z\"/>"
shape p (cell r c) = filled (ascii "<path class=\"h\" d=\"M0 0h28v28h-28z\"/><circle class=\"b\" cx=\"@\" cy=\"@\" r=\"4\"/>") ((4 + along 20 c p) ∷ (4 + along 20 r p) ∷ [])
shape p (column c) = filled (ascii "<path class=\"h\" d=\"M0 0h28v28h-28z\"/><path class=\"b\" d=\"M@ 0h3v28h-3z\"/>") (along 25 c p ∷ [])
shape p (row r) = filled (ascii "<path class=\"h\" d=\"M0 0h28v28h-28z\"/><path class=\"b\" d=\"M0 @h28v3h-28z\"/>") (along 25 r p ∷ [])
shape p done = ascii "<path class=\"f\" d=\"M0 0h28v28h-28z\"/><path class=\"i\" d=\"M8 8h12v12h-12z\"/>"
shape p (refused n) = refused_shape n

-- SPEC 12.7: the offset before a row, which the first square of the row brings
unfoldable pub label : ℕ → ℕ → List ℕ
label k offset = cond (eqb (k % 24) 0) (filled (ascii "<text class=\"o\" x=\"88\" y=\"@\">@</text>\n") ((down k + 18) ∷ offset ∷ [])) []

-- SPEC 12.7: the beginning of the k-th square, at a record's offset and with a line of a listing, without its LF, as the title
unfoldable pub begin : ℕ → ℕ → List ℕ → List ℕ
begin k offset line =
    label k offset ++ filled (ascii "<g transform=\"translate(@ @)\"><title>") (across k ∷ down k ∷ []) ++ take (length line - 1) line ++ ascii "</title>"

-- SPEC 12.7: the k-th square; and the one where the walk stopped, behind k tiles, at a refusal and an offset
unfoldable pub square : ℕ → ℕ → List ℕ → ℕ → Said → List ℕ
square k offset line p said = begin k offset line ++ shape p said ++ ascii "</g>\n"

unfoldable pub stop : ℕ → ℕ → ℕ → List ℕ
stop k n offset =
    begin k offset (stopped_line n offset) ++ filled (ascii "<path class=\"s\" d=\"M1 1h26v26h-26z\"/><text class=\"n\" x=\"14\" y=\"18\">@</text></g>\n") (n ∷ [])

-- ---- the beginning and the end of the drawing

-- SPEC 12.7: STYLE
abbrev pub style : List ℕ
style =
    ascii "text{font:12px monospace;fill:#333}.o{text-anchor:end}.n{text-anchor:middle}.k{fill:#e0efe0}.h{fill:#efcb70}"
    ++ ascii ".b{fill:#b00020}.f{fill:#bcd4ee}.i{fill:#1f4e8c}.r{fill:#3a3a3a}.d{fill:#6b4a8c}"
    ++ ascii ".x{fill:none;stroke:#fff;stroke-width:3}.s{fill:none;stroke:#b00020;stroke-width:2;stroke-dasharray:4 3}"

-- SPEC 12.7: the first three lines, for n squares
unfoldable pub head : ℕ → List ℕ
head n = filled
    (ascii "<svg xmlns=\"http://www.w3.org/2000/svg\" width=\"872\" height=\"@\" viewBox=\"0 0 872 @\">\n"
    ++ ascii "<style>" ++ style ++ ascii "</style>\n"
    ++ ascii "<path fill=\"#fff\" d=\"M0 0h872v@h-872z\"/>\n")
    (height n ∷ height n ∷ height n ∷ [])

-- SPEC 12.7: the legend and the end. How far down an entry is drawn and how many squares have its shape are left open; how far across it is
-- drawn is 96, 288, 480 or 672. That the shapes are those of tiles of size 257 is shown in `Worked`
abbrev pub foot_form : List ℕ
foot_form =
    ascii "<g transform=\"translate(96 @)\"><path class=\"k\" d=\"M0 0h28v28h-28z\"/><text x=\"36\" y=\"18\">clean @</text></g>\n"
    ++ ascii "<g transform=\"translate(288 @)\"><path class=\"h\" d=\"M0 0h28v28h-28z\"/><circle class=\"b\" cx=\"14\" cy=\"14\" r=\"4\"/><text x=\"36\" y=\"18\">cell @</text></g>\n"
    ++ ascii "<g transform=\"translate(480 @)\"><path class=\"h\" d=\"M0 0h28v28h-28z\"/><path class=\"b\" d=\"M12 0h3v28h-3z\"/><text x=\"36\" y=\"18\">column @</text></g>\n"
    ++ ascii "<g transform=\"translate(672 @)\"><path class=\"h\" d=\"M0 0h28v28h-28z\"/><path class=\"b\" d=\"M0 12h28v3h-28z\"/><text x=\"36\" y=\"18\">row @</text></g>\n"
    ++ ascii "<g transform=\"translate(96 @)\"><path class=\"f\" d=\"M0 0h28v28h-28z\"/><path class=\"i\" d=\"M8 8h12v12h-12z\"/><text x=\"36\" y=\"18\">filled @</text></g>\n"
    ++ ascii "<g transform=\"translate(288 @)\"><path class=\"r\" d=\"M0 0h28v28h-28z\"/><path class=\"x\" d=\"M6 6l16 16m0-16l-16 16\"/>"
    ++ ascii "<text x=\"36\" y=\"18\">refused @</text></g>\n"
    ++ ascii "<g transform=\"translate(480 @)\"><path class=\"d\" d=\"M0 0h28v28h-28z\"/><path class=\"x\" d=\"M9 11c0-7 10-7 10-1c0 4-5 4-5 7m0 3v3\"/>"
    ++ ascii "<text x=\"36\" y=\"18\">doubtful @</text></g>\n"
    ++ ascii "<g transform=\"translate(672 @)\"><path class=\"s\" d=\"M1 1h26v26h-26z\"/><text x=\"36\" y=\"18\">stopped @</text></g>\n"
    ++ ascii "</svg>\n"

-- SPEC 12.7: the legend and the end, below so many tiles and so many stops
unfoldable pub foot : Tally → ℕ → List ℕ
foot t stops =
    let n = t.tiles + stops in
    filled foot_form
    (upper n ∷ t.clean ∷ upper n ∷ t.cells ∷ upper n ∷ t.columns ∷ upper n ∷ t.rows
    ∷ lower n ∷ t.filled ∷ lower n ∷ t.refused ∷ lower n ∷ t.doubtful ∷ lower n ∷ stops ∷ [])

-- ---- the map in signs

-- SPEC 12.8: the sign of a tile, by what comes of restoring it
unfoldable pub sign : Said → ℕ
sign clean = code "."
sign (cell r c) = code "o"
sign (column c) = code "|"
sign (row r) = code "-"
sign done = code "#"
sign (refused n) = cond (eqb n 8) (code "?") (code "x")

-- SPEC 12.8: the offset before a row, which its first sign brings, and the LF behind it, which its last sign brings
unfoldable pub row_begin : ℕ → ℕ → List ℕ
row_begin k offset = cond (eqb (k % 24) 0) (right_aligned offset) []

unfoldable pub row_end : ℕ → List ℕ
row_end k = cond (eqb (k % 24) 23) lf []

-- SPEC 12.8: what the k-th tile brings; what stands where the walk stopped, behind k tiles; and the end of a row of tiles that is not full
unfoldable pub signed : ℕ → ℕ → Said → List ℕ
signed k offset said = row_begin k offset ++ (code " " ∷ sign said ∷ []) ++ row_end k

unfoldable pub stop_signed : ℕ → ℕ → ℕ → List ℕ
stop_signed k n offset = row_begin k offset ++ filled (ascii " @\n") (n ∷ [])

unfoldable pub last_row_end : ℕ → List ℕ
last_row_end k = cond (eqb (k % 24) 0) [] lf

-- SPEC 12.8: the seven lines of the legend
unfoldable pub sign_legend : Tally → List ℕ
sign_legend t = filled
    (ascii ". clean @\n" ++ ascii "o cell @\n" ++ ascii "| column @\n" ++ ascii "- row @\n"
    ++ ascii "# filled @\n" ++ ascii "x refused @\n" ++ ascii "? doubtful @\n")
    (t.clean ∷ t.cells ∷ t.columns ∷ t.rows ∷ t.filled ∷ t.refused ∷ t.doubtful ∷ [])

-- ---- what is shown

-- SPEC 8.1, 12.7 and 12.8: what is shown of the k-th tile of a reel, whose record begins at an offset, by its number, its size, its slope
-- and what comes of restoring it
unfoldable pub tile_shown : Form → ℕ → ℕ → ℕ → ℕ → ℕ → Said → List ℕ
tile_shown Lines k offset number p l said = tile_line number p l said
tile_shown Squares k offset number p l said = square k offset (tile_line number p l said) p said
tile_shown Signs k offset number p l said = signed k offset said

-- SPEC 12.7: what stands before the first tile, where there will be so many squares
unfoldable pub begun_shown : Form → ℕ → List ℕ
begun_shown Lines n = []
begun_shown Squares n = head n
begun_shown Signs n = []

-- SPEC 8.1, 12.7 and 12.8: what closes a walk that came to the end
unfoldable pub ended_shown : Form → Tally → List ℕ
ended_shown Lines t = end_line t.tiles
ended_shown Squares t = foot t 0
ended_shown Signs t = last_row_end t.tiles ++ sign_legend t ++ end_line t.tiles

-- SPEC 8.1, 12.7 and 12.8: what closes a walk that stopped, at a refusal and an offset
unfoldable pub stopped_shown : Form → Tally → ℕ → ℕ → List ℕ
stopped_shown Lines t n offset = stopped_line n offset
stopped_shown Squares t n offset = stop t.tiles n offset ++ foot t 1
stopped_shown Signs t n offset = stop_signed t.tiles n offset ++ sign_legend t ++ stopped_line n offset

-- SPEC 12.3: the line of a tile that was corrected by a sheet of so many records
unfoldable pub corrected_line : ℕ → ℕ → ℕ → ℕ → List ℕ
corrected_line number p l count = filled (ascii "@ @ @ corrected @\n") (number ∷ p ∷ l ∷ count ∷ [])
