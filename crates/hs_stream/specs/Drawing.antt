-- What is drawn from a seed: the expressions of a list, the bytes of a stream, and the lengths of the pieces of a run.
use Rattle.std.specs.Prelude.{ℕ, zero, suc, ◌+◌, ◌*◌, ◌/◌, ◌%◌, ◌==◌, ◌||◌, List, [], ◌∷◌, ◌++◌, codes, if◌then◌else◌}
use Rattle.hs_base.specs.Entries.{ListedEntry}
use Rattle.hs_text.specs.Parameters.{no_parameters}

-- ---- draws

-- the number x behind a draw (a linear congruential generator, with the numbers of the C standard's example)
abbrev pub stepped : ℕ → ℕ
stepped x = (1103515245 * x + 12345) % 2147483648

-- what is drawn below k at x
abbrev pub drawn : (k x : ℕ) → ℕ
drawn k x = (stepped x / 65536) % k

-- the number behind n draws
abbrev pub after : (n x : ℕ) → ℕ
after zero x = x
after (suc n) x = stepped (after n x)

-- the number before the first draw
abbrev pub first_of : (seed : ℕ) → ℕ
first_of seed = seed % 2147483648

-- ---- the expressions

-- a letter `a` to `f`
abbrev pub letter : ℕ → ℕ
letter x = 97 + drawn 6 x

-- three letters
abbrev pub letters : ℕ → List ℕ
letters x = letter x ∷ letter (after 1 x) ∷ letter (after 2 x) ∷ []

-- an expression: how it is made is drawn first, then its letters are
abbrev pub expression : (made x : ℕ) → List ℕ
expression made x =
    if made == 0 then letters x
    else (if made == 1 then letters x ++ codes ".*" ++ letters (after 3 x)
    else (if made == 2 then codes "[0-9]+" ++ letters x
    else letters x ++ codes "[a-z]{3,9}" ++ letters (after 3 x)))

-- how many letters it has
abbrev pub letter_count : (made : ℕ) → ℕ
letter_count made = if made == 0 || made == 2 then 3 else 6

-- the entry of that identifier, without flags and parameters
abbrev pub entry : (id x : ℕ) → ListedEntry
entry id x = record { id = id; flags = 0; ext = no_parameters; text = expression (drawn 4 x) (stepped x) }

-- the number behind an entry
abbrev pub behind_entry : ℕ → ℕ
behind_entry x = after (letter_count (drawn 4 x)) (stepped x)

-- the number behind n entries
abbrev pub behind_entries : (n x : ℕ) → ℕ
behind_entries zero x = x
behind_entries (suc n) x = behind_entry (behind_entries n x)

-- n entries, each with its number, counted from 1, as its identifier
abbrev pub entries : (n x : ℕ) → List ListedEntry
entries zero x = []
entries (suc n) x = entries n x ++ entry (suc n) (behind_entries n x) ∷ []

-- ---- the stream

-- the byte of a draw below 10: `a` to `f`, a line feed, a space, `0` or `1`
abbrev pub byte : ℕ → ℕ
byte n =
    if n == 6 then 10
    else (if n == 7 then 32
    else (if n == 8 then 48
    else (if n == 9 then 49
    else 97 + n)))

-- n bytes
abbrev pub bytes : (n x : ℕ) → List ℕ
bytes zero x = []
bytes (suc n) x = bytes n x ++ byte (drawn 10 (after n x)) ∷ []

-- ---- all that is drawn from a seed, in this order

-- the entries of the list
abbrev pub drawn_entries : (seed count : ℕ) → List ListedEntry
drawn_entries seed count = entries count (first_of seed)

-- the stream, of 64 bytes an entry
abbrev pub drawn_stream : (seed count : ℕ) → List ℕ
drawn_stream seed count = bytes (64 * count) (behind_entries count (first_of seed))

-- the number before the first length is drawn
abbrev pub before_lengths : (seed count : ℕ) → ℕ
before_lengths seed count = after (64 * count) (behind_entries count (first_of seed))

-- the length of a piece
abbrev pub piece_length : ℕ → ℕ
piece_length x = 1 + drawn 97 x
