-- A store over memory: where a file stands, and what a put changes.
use Rattle.std.proofs.Common.{◌≡◌, ◌≢◌, ℕ, zero, suc, ◌+◌, ◌<◌, Bool, true, false, cond, List, [], ◌∷◌, ◌++◌, length, get_or, Option, None, Some, sym, ◌∙◌, ap, refl, arith, All}
use Rattle.std.specs.Str.{bytes_eq}
use Rattle.std.proofs.lemmas.Slice.Eq.{bytes_eq-Decides}
use Rattle.std.proofs.Math.ListN.{set}
use Rattle.hs_outside.specs.Store.{Puts, holds, told_put}
use Rattle.hs_outside.specs.MemStore.{File, IsFirstNamed, told_of, content_of, put_in, total_len}

-- a name is found equal to itself
same_name : (a b : List ℕ) → a ≡ b → bytes_eq a b ≡ true
same_name a b same = (bytes_eq-Decides a b).1 same

-- another name is found different
other_name : (a b : List ℕ) → a ≢ b → bytes_eq a b ≡ false
other_name a b differ = by_test (bytes_eq a b) refl
  where
    by_test : (v : Bool) → bytes_eq a b ≡ v → bytes_eq a b ≡ false
    by_test true h = absurd (differ ((bytes_eq-Decides a b).0 h))
    by_test false h = h

-- names that are found different differ
differs : (a b : List ℕ) → bytes_eq a b ≡ false → a ≢ b
differs a b h same = cc (same_name a b same)

-- what holds of each file holds of the first
unnamed_head : (file : File) (later : List File) (name : List ℕ) → All (λ f. f.name ≢ name) (file ∷ later) → file.name ≢ name
unnamed_head file later name h = h 0 file (omega arith)

-- what holds of each file holds of the others
unnamed_tail : (file : File) (later : List File) (name : List ℕ) → All (λ f. f.name ≢ name) (file ∷ later) → All (λ f. f.name ≢ name) later
unnamed_tail file later name h k d lt = h (suc k) d (omega arith)

-- a file that is told by its place is the one with the name
pub content_of-at : (files : List File) (name : List ℕ) (place : ℕ) (d : File) → IsFirstNamed files name place → content_of files name ≡ Some (get_or files place d).content
content_of-at [] name place d h = absurd h
content_of-at (file ∷ later) name zero d h = rw (same_name file.name name h) refl
content_of-at (file ∷ later) name (suc place) d h = rw (other_name file.name name h.0) (content_of-at later name place d h.1)

-- where no file has the name there is no content
pub content_of-none : (files : List File) (name : List ℕ) → All (λ file. file.name ≢ name) files → content_of files name ≡ None
content_of-none [] name h = refl
content_of-none (file ∷ later) name h = rw (other_name file.name name (unnamed_head file later name h)) (content_of-none later name (unnamed_tail file later name h))

-- a place of a name is a place
pub place_within : (files : List File) (name : List ℕ) (place : ℕ) → IsFirstNamed files name place → place < length files
place_within [] name place h = absurd h
place_within (file ∷ later) name zero h = omega arith
place_within (file ∷ later) name (suc place) h = omega (arith, place_within later name place h.1)

-- a put under a name that is there changes that place
pub put_in-at : (files : List File) (name bytes : List ℕ) (place : ℕ) → IsFirstNamed files name place → put_in files name bytes ≡ set files place (record { name = name; content = bytes })
put_in-at [] name bytes place h = absurd h
put_in-at (file ∷ later) name bytes zero h = rw (same_name file.name name h, h) refl
put_in-at (file ∷ later) name bytes (suc place) h = rw (other_name file.name name h.0) (ap (λ (fs : List File). file ∷ fs) (put_in-at later name bytes place h.1))

-- a put under a name that isn't there adds a file
pub put_in-none : (files : List File) (name bytes : List ℕ) → All (λ file. file.name ≢ name) files → put_in files name bytes ≡ files ++ (record { name = name; content = bytes }) ∷ []
put_in-none [] name bytes h = refl
put_in-none (file ∷ later) name bytes h = rw (other_name file.name name (unnamed_head file later name h)) (ap (λ (fs : List File). file ∷ fs) (put_in-none later name bytes (unnamed_tail file later name h)))

-- how many files and bytes there are after a put under a name that is there
pub put_in-len_at : (files : List File) (name bytes : List ℕ) (place : ℕ) (d : File) → IsFirstNamed files name place →
    (length (put_in files name bytes) ≡ length files) × (total_len (put_in files name bytes) + length (get_or files place d).content ≡ total_len files + length bytes)
put_in-len_at [] name bytes place d h = absurd h
put_in-len_at (file ∷ later) name bytes zero d h = rw (same_name file.name name h) (refl, omega arith)
put_in-len_at (file ∷ later) name bytes (suc place) d h =
    let more = put_in-len_at later name bytes place d h.1 in
    rw (other_name file.name name h.0) (ap suc more.0, omega (arith, more.1))

-- how many bytes there are with one more file
pub total_len-append : (files : List File) (file : File) → total_len (files ++ file ∷ []) ≡ total_len files + (length file.name + length file.content)
total_len-append [] file = omega arith
total_len-append (first ∷ later) file = omega (arith, total_len-append later file)

-- after a put the store has those bytes under that name
pub content_of-put_in : (files : List File) (name bytes : List ℕ) → content_of (put_in files name bytes) name ≡ Some bytes
content_of-put_in [] name bytes = rw (same_name name name refl) refl
content_of-put_in (file ∷ later) name bytes = by_test (bytes_eq file.name name) refl (content_of-put_in later name bytes)
  where
    by_test : (v : Bool) → bytes_eq file.name name ≡ v → content_of (put_in later name bytes) name ≡ Some bytes → content_of (put_in (file ∷ later) name bytes) name ≡ Some bytes
    by_test true h rest = rw h (rw h refl)
    by_test false h rest = rw h (rw h rest)

-- a put changes no other file
pub content_of-put_other : (files : List File) (name bytes other : List ℕ) → other ≢ name → content_of (put_in files name bytes) other ≡ content_of files other
content_of-put_other [] name bytes other differ = rw (other_name name other (λ same. differ (sym same))) refl
content_of-put_other (file ∷ later) name bytes other differ = by_test (bytes_eq file.name name) refl (content_of-put_other later name bytes other differ)
  where
    by_test : (v : Bool) → bytes_eq file.name name ≡ v → content_of (put_in later name bytes) other ≡ content_of later other → content_of (put_in (file ∷ later) name bytes) other ≡ content_of (file ∷ later) other
    by_test true h rest =
        let same : file.name ≡ name = (bytes_eq-Decides file.name name).0 h in
        let not_other : bytes_eq file.name other ≡ false = other_name file.name other (λ e. differ (sym e ∙ same)) in
        rw h (rw not_other refl)
    by_test false h rest = rw h (ap (λ (found : Option (List ℕ)). cond (bytes_eq file.name other) (Some file.content) found) rest)

-- what a put into the files tells
pub Puts-in : (files now : List File) (name bytes : List ℕ) → now ≡ put_in files name bytes → Puts (λ n. told_of (content_of files n)) (λ n. told_of (content_of now n)) name bytes
Puts-in files now name bytes is = record {
  file = ap told_of (ap (λ (fs : List File). content_of fs name) is ∙ content_of-put_in files name bytes) ∙ told_then (content_of files name);
  others = λ other differ. ap told_of (ap (λ (fs : List File). content_of fs other) is ∙ content_of-put_other files name bytes other differ);
}
  where
    told_then : (before : Option (List ℕ)) → holds bytes ≡ told_put (told_of before) bytes
    told_then None = refl
    told_then (Some content) = refl
