-- What is drawn, step by step.
use Rattle.std.proofs.Common.{◌≡◌, ◌∙◌, ℕ, ◌+◌, ◌==◌, Bool, List, [], ◌∷◌, ◌++◌, map, codes, if◌then◌else◌, sym, ap, ap₂, append_assoc, subst, arith, suc}
use Rattle.std.proofs.lemmas.Bool.{ne_eqb}
use Rattle.std.proofs.lemmas.List.{map-append}
use Rattle.hs_base.specs.Entries.{ListedEntry, listed}
use Rattle.hs_base.specs.declared.ext.Entry.{Entry}
use Rattle.hs_text.specs.Parameters.{no_parameters}
use Rattle.hs_stream.specs.Drawing.{after, stepped, drawn, letters, expression, letter_count, entry, entries, byte, bytes, behind_entry, behind_entries}

pub two-words : (first between second a b d : List ℕ) (x y : ℕ) → first ≡ letters x → y ≡ after 3 x → second ≡ letters y → a ≡ first → b ≡ a ++ between → d ≡ b ++ second →
    d ≡ letters x ++ between ++ letters (after 3 x)
two-words first between second a b d x y one step two e1 e2 e3 =
    let left : b ≡ letters x ++ between = e2 ∙ ap (λ l. l ++ between) (e1 ∙ one) in
    e3 ∙ (ap₂ (λ (l r : List ℕ). l ++ r) left (two ∙ ap letters step) ∙ append_assoc (letters x) between (letters (after 3 x)))

-- an expression that is made in the last way
pub last-way : (made x : ℕ) → (made ≡ 0 → ⊥) → (made ≡ 1 → ⊥) → (made ≡ 2 → ⊥) → letters x ++ codes "[a-z]{3,9}" ++ letters (after 3 x) ≡ expression made x
last-way made x not_zero not_one not_two = sym (ap (λ (b : Bool). if b then letters x else (if made == 1 then letters x ++ codes ".*" ++ letters (after 3 x) else (if made == 2 then codes "[0-9]+" ++ letters x else letters x ++ codes "[a-z]{3,9}" ++ letters (after 3 x)))) (ne_eqb made 0 not_zero)
    ∙ (ap (λ (b : Bool). if b then letters x ++ codes ".*" ++ letters (after 3 x) else (if made == 2 then codes "[0-9]+" ++ letters x else letters x ++ codes "[a-z]{3,9}" ++ letters (after 3 x))) (ne_eqb made 1 not_one)
    ∙ ap (λ (b : Bool). if b then codes "[0-9]+" ++ letters x else letters x ++ codes "[a-z]{3,9}" ++ letters (after 3 x)) (ne_eqb made 2 not_two)))

pub entry-is : (id made x y : ℕ) (text : List ℕ) → text ≡ expression made y → made ≡ drawn 4 x → y ≡ stepped x → record { id = id; flags = 0; ext = no_parameters; text = text } ≡ entry id x
entry-is id made x y text is way step = ap (λ (t : List ℕ). record { id = id; flags = 0; ext = no_parameters; text = t }) (is ∙ ap₂ expression way step)

pub entry-next : (made x y z : ℕ) → z ≡ after (letter_count made) y → made ≡ drawn 4 x → y ≡ stepped x → z ≡ behind_entry x
entry-next made x y z is way step = is ∙ ap₂ (λ (m n : ℕ). after (letter_count m) n) way step

-- one entry more
pub entries-more : (n x y : ℕ) (xs : List Entry) (e : Entry) → map listed xs ≡ entries n x → y ≡ behind_entries n x → listed e ≡ entry (n + 1) y → map listed (xs ++ e ∷ []) ≡ entries (n + 1) x
entries-more n x y xs e are step is =
    let next : suc n ≡ n + 1 = omega arith in
    subst (λ k. listed e ≡ entry k y → map listed (xs ++ e ∷ []) ≡ entries k x) next (λ as_suc.
    map-append listed xs (e ∷ []) ∙ ap₂ (λ (l : List ListedEntry) (r : ListedEntry). l ++ r ∷ []) are (as_suc ∙ ap (entry (suc n)) step)) is

pub entries-next : (n x y z : ℕ) → y ≡ behind_entries n x → z ≡ behind_entry y → z ≡ behind_entries (n + 1) x
entries-next n x y z step is = let next : suc n ≡ n + 1 = omega arith in subst (λ k. z ≡ behind_entries k x) next (is ∙ ap behind_entry step)

-- one byte more
pub bytes-more : (n x y b : ℕ) (xs : List ℕ) → xs ≡ bytes n x → y ≡ after n x → b ≡ byte (drawn 10 y) → xs ++ b ∷ [] ≡ bytes (n + 1) x
bytes-more n x y b xs are step is =
    let next : suc n ≡ n + 1 = omega arith in
    subst (λ k. xs ++ b ∷ [] ≡ bytes k x) next (ap₂ (λ (l : List ℕ) (r : ℕ). l ++ r ∷ []) are (is ∙ ap (λ z. byte (drawn 10 z)) step))

pub bytes-next : (n x y z : ℕ) → y ≡ after n x → z ≡ stepped y → z ≡ after (n + 1) x
bytes-next n x y z step is = let next : suc n ≡ n + 1 = omega arith in subst (λ k. z ≡ after k x) next (is ∙ ap stepped step)

-- of a list with one more
pub pushed : {xs ys : List Entry} {more : List ListedEntry} → ys ≡ xs → map listed xs ≡ more → map listed ys ≡ more
pushed same are = ap (map listed) same ∙ are
