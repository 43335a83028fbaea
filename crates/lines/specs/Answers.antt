-- What the functions answer, by the cases of their answers.
use Rattle.std.specs.Prelude.{ℕ, ◌-◌, ◌≤◌, ◌<◌, ◌≡◌, List, [], ◌∷◌, length, Option, Some, None}
use Rattle.spec.specs.Lines.{end, byte, text_at, line_text, later_lines, lines_from, first_name, later_names, extent}

-- `peek`: the text at a place is the byte that it answers, and then the text at the place that it answers.
abbrev pub Peeked : List ℕ → ℕ → Option (ℕ × ℕ) → Type 0
Peeked s at (Some (b, n)) = (text_at s at ≡ byte b n (text_at s n)) × (at < n) × (n ≤ length s)
Peeked s at None = text_at s at ≡ end

-- `next_name`: the later names of the line at a place are the names of the line at the place that it answers, or none.
abbrev pub NextName : List ℕ → ℕ → Option ℕ → Type 0
NextName s at (Some n) =
    (later_names (line_text (text_at s at)) ≡ first_name (line_text (text_at s n)) ∷ later_names (line_text (text_at s n))) × (at < n) × (n ≤ length s)
NextName s at None = later_names (line_text (text_at s at)) ≡ []

-- `past_line`, `next_line`: the later lines are those from the place on that it answers, or none.
abbrev pub NextLine : List ℕ → ℕ → Option ℕ → Type 0
NextLine db at (Some n) = (later_lines (text_at db at) ≡ lines_from n (text_at db n)) × (at < n) × (n ≤ length db)
NextLine db at None = later_lines (text_at db at) ≡ []

-- `past_line`: the line at a place ends at the newline before the place that it answers, or with the database.
abbrev pub Closed : List ℕ → ℕ → Option ℕ → Type 0
Closed db at (Some n) = extent db at ≡ n - 1
Closed db at None = extent db at ≡ length db
