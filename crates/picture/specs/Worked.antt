-- Worked cases of what is shown, computed from the definitions: a square, a row of signs that begins, and the shapes of the legend. Assumes
-- nothing.
use Rattle.std.specs.Prelude.{◌≡◌, refl, ◌++◌}
use Rattle.promise.specs.Answer.{done, clean, cell, column, row, refused}
use Rattle.lettering.specs.Line.{ascii, digits_up_to, decimal, state_text, tile_line}
use Rattle.page.specs.Page.{right_aligned, sign_filled, taken, filled}
use Rattle.picture.specs.declared.Form.TheVariants.{Squares, Signs}
use Rattle.picture.specs.Picture.{along, refused_shape, shape, label, begin, square, sign, row_begin, row_end, signed, tile_shown}

-- the first tile of a reel, whose line is 2 5 3 column 2
pub square_0 : tile_shown Squares 0 0 2 5 3 (column 2)
    ≡ ascii "<text class=\"o\" x=\"88\" y=\"34\">0</text>\n"
    ++ ascii "<g transform=\"translate(96 16)\"><title>2 5 3 column 2</title><path class=\"h\" d=\"M0 0h28v28h-28z\"/><path class=\"b\" d=\"M16 0h3v28h-3z\"/></g>\n"
unfolding tile_shown square begin label shape along filled sign_filled taken tile_line state_text decimal digits_up_to
square_0 = refl

-- the first tile of a second row, which is doubtful, behind 24 of the largest records; and one in the middle of a row
pub sign_24 : tile_shown Signs 24 1573200 2 5 3 (refused 8) ≡ ascii "     1573200 ?"
unfolding tile_shown signed row_begin row_end sign right_aligned decimal digits_up_to
sign_24 = refl

pub sign_1 : tile_shown Signs 1 39 2 5 3 (refused 8) ≡ ascii " ?"
unfolding tile_shown signed row_begin row_end sign
sign_1 = refl

-- SPEC 12.7: the shapes of the legend are those of a tile of size 257 whose cell (128, 128), column 128 or row 128 is named
pub legend_clean : shape 257 clean ≡ ascii "<path class=\"k\" d=\"M0 0h28v28h-28z\"/>"
unfolding shape
legend_clean = refl

pub legend_cell : shape 257 (cell 128 128) ≡ ascii "<path class=\"h\" d=\"M0 0h28v28h-28z\"/><circle class=\"b\" cx=\"14\" cy=\"14\" r=\"4\"/>"
unfolding shape along filled sign_filled taken decimal digits_up_to
legend_cell = refl

pub legend_column : shape 257 (column 128) ≡ ascii "<path class=\"h\" d=\"M0 0h28v28h-28z\"/><path class=\"b\" d=\"M12 0h3v28h-3z\"/>"
unfolding shape along filled sign_filled taken decimal digits_up_to
legend_column = refl

pub legend_row : shape 257 (row 128) ≡ ascii "<path class=\"h\" d=\"M0 0h28v28h-28z\"/><path class=\"b\" d=\"M0 12h28v3h-28z\"/>"
unfolding shape along filled sign_filled taken decimal digits_up_to
legend_row = refl

pub legend_filled : shape 257 done ≡ ascii "<path class=\"f\" d=\"M0 0h28v28h-28z\"/><path class=\"i\" d=\"M8 8h12v12h-12z\"/>"
unfolding shape
legend_filled = refl

pub legend_refused : shape 257 (refused 5) ≡ ascii "<path class=\"r\" d=\"M0 0h28v28h-28z\"/><path class=\"x\" d=\"M6 6l16 16m0-16l-16 16\"/>"
unfolding shape refused_shape
legend_refused = refl

pub legend_doubtful : shape 257 (refused 8) ≡ ascii "<path class=\"d\" d=\"M0 0h28v28h-28z\"/><path class=\"x\" d=\"M9 11c0-7 10-7 10-1c0 4-5 4-5 7m0 3v3\"/>"
unfolding shape refused_shape
legend_doubtful = refl
