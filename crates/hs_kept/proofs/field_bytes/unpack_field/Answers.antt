use Rattle.std.proofs.Common.{◌≡◌, ℕ, ◌+◌, ◌-◌, List, ◌++◌, length, take, slice_range, sym, ap, ◌∙◌, arith, append_assoc}
use Rattle.std.specs.Prelude.{slice_index}
use Rattle.hs_states.specs.StateSets.{set_bytes, set_width}
use Rattle.hs_kept.specs.StateFields.{end_of}
use Rattle.hs_kept.proofs.WritingLemmas.{front-written}
use Rattle.hs_kept.proofs.field_bytes.unpack_field.Goals as goal

pub returns-clause-made : goal.returns-clause-made
returns-clause-made c =
    let f = c.args.field.now in
    let next = c.requires.next in
    let gap : List ℕ = slice_range c.args.kept.now c.args.place f.place in
    let set : List ℕ = set_bytes f.sets (slice_index c.args.kept.now f.place) in
    let w : List ℕ = c.copy_from_slice.new.self in
    let made : List ℕ = c.copy_gap.new.to in
    let front : List ℕ = take c.args.at c.args.region.now in
    let is_set : w ≡ set = c.copy_from_slice.ensures.after ∙ c.set.ensures.set in
    let size : length w ≡ set_width f.sets = ap (λ (l : List ℕ). length l) c.copy_from_slice.ensures.after ∙ c.set.ensures.len in
    let begin : c.args.at + (f.place - c.args.place) ≡ f.at = omega (arith, next.alike, next.place_behind) in
    front-written made w _ f.at (end_of f) (omega (arith, next.within, c.copy_gap.ensures.len)) (omega (arith, size))
    ∙ (ap (λ (l : List ℕ). take f.at made ++ l) is_set
    ∙ (ap (λ (l : List ℕ). l ++ set) (ap (λ n. take n made) (sym begin) ∙ c.copy_gap.ensures.made) ∙ append_assoc front gap set))
