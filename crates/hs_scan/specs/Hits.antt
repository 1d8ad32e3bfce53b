-- Where literals end in a chunk, in the form that nodes ask for.
use Rattle.std.specs.Prelude.{◌≡◌, ℕ, ◌≤◌, Bool, true, false, List, [], ◌∷◌, slice_index_or}
use Rattle.hs_literals.specs.HitTables.{HitTable}
use Rattle.hs_literals.specs.HitTables.{is_hit_at as is_table_hit}
use Rattle.hs_nodes.specs.Hits.{is_hit_at}
use Rattle.hs_nodes.specs.Openings.{lasting_literals}
use Rattle.hs_nodes.specs.declared.hits.ChunkHits.{ChunkHits}
use Rattle.hs_nodes.specs.declared.openings.Openings.{Openings}

-- nowhere
abbrev pub no_hits : ChunkHits
no_hits = record { at_start = false; behind = 0 ∷ 0 ∷ 0 ∷ 0 ∷ 0 ∷ 0 ∷ 0 ∷ 0 ∷ [] }

-- those of the literal of that number
abbrev pub hits_of : List ChunkHits → ℕ → ChunkHits
hits_of hits k = slice_index_or hits k no_hits

-- the literal of that number ends nowhere
abbrev pub HasNowhere : List ChunkHits → ℕ → Type 0
HasNowhere hits k = hits_of hits k ≡ no_hits

-- The hits tell where the literal of that number ends by the table.
abbrev pub IsShown : HitTable → (number : ℕ) → ChunkHits → Type 0
IsShown table number hits = (i : ℕ) → i ≤ 512 → is_hit_at hits i ≡ is_table_hit table number i

-- and so those of that number in a list
abbrev pub AreShown : HitTable → List ChunkHits → ℕ → Type 0
AreShown table hits k = IsShown table k (hits_of hits k)

-- what is looked for, of all literals or of all hits: where the openings are over, the first ones, which last
abbrev pub sought : {A : Type 0} → (are_over : Bool) → Openings → List A → List A
sought true openings xs = lasting_literals openings xs
sought false openings xs = xs
