-- The line that a program prints of a refusal. Assumes nothing.
use Rattle.std.specs.Prelude.{ℕ, List, [], ◌∷◌}
use Rattle.text.specs.Text.{empty_line, appended, decimal_text}
use Rattle.text.specs.declared.Line.{Line}

-- "refused NUMBER PLACE" and a newline; after the word stands which part of the input it is, where there are several
unfoldable pub refusal_line : List ℕ → ℕ → ℕ → Line
refusal_line part number place =
    appended
    (appended
    (appended
    (appended (appended empty_line (0x72 ∷ 0x65 ∷ 0x66 ∷ 0x75 ∷ 0x73 ∷ 0x65 ∷ 0x64 ∷ [])) part)
    (0x20 ∷ decimal_text number))
    (0x20 ∷ decimal_text place))
    (0x0a ∷ [])
