-- What stands in the words of a row.
use Rattle.std.specs.Prelude.{◌≡◌, ℕ, ◌+◌, ◌-◌, ◌*◌, ◌==◌, ◌||◌, ◌≤◌, Bool, false, List, length, fold}

-- the number that decimal digits spell
abbrev pub spelled : List ℕ → ℕ
spelled digits = fold (λ number digit. number * 10 + (digit - 48)) 0 digits

-- the byte of `%`, `;`, `~` or a line feed, which stand for other bytes
abbrev pub is_sign : ℕ → Bool
is_sign byte = byte == 37 || byte == 59 || byte == 126 || byte == 10

-- the byte stands for itself
abbrev pub IsItself : ℕ → Type 0
IsItself byte = is_sign byte ≡ false

-- the word has at least one byte
abbrev pub HasBytes : List ℕ → Type 0
HasBytes word = 1 ≤ length word
