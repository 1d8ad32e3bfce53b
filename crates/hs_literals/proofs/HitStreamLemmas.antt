-- Hits in a chunk, and in the stream of which it is a part.
use Rattle.std.proofs.Common.{◌≡◌, ◌↔◌, ℕ, ◌+◌, ◌-◌, ◌*◌, ◌≤◌, true, ◌&&◌, List, ◌++◌, length, take, drop, Some, slice_get, sym, ap, subst, ◌∙◌, inl, inr, arith, length-append, append_assoc, length-take, length-drop}
use Rattle.std.specs.Prelude.{nat_le}
use Rattle.std.proofs.lemmas.Bool.{le-leb}
use Rattle.std.proofs.lemmas.List.{take-append-drop}
use Rattle.std.proofs.lemmas.Option.{get_or_from_slice_get}
use Rattle.std.proofs.Math.Seq.{drop-append-add}
use Rattle.hs_base.specs.LiteralEnds.{EndsAt}
use Rattle.hs_base.specs.Literals.{LiteralByte}
use Rattle.hs_block.specs.declared.literal.Hits.{Hits}
use Rattle.hs_block.specs.LiteralBlocks.{AreHits, is_hit}
use Rattle.hs_block.proofs.LiteralBlockLemmas.{ends-stay}
use Rattle.hs_confirm.specs.Taking.{takes_all, ends_there}
use Rattle.hs_confirm.proofs.TakingLemmas.{ends_from_there, there_from_ends}
use Rattle.hs_literals.specs.HitTables.{HitTable, IsHit, TellsHits, is_hit_at}
use Rattle.hs_literals.specs.HitLaws.{ReachesBack}

-- whether a literal ends there doesn't change by bytes further before than it reaches
there-behind : (literal : List LiteralByte) (earlier text : List ℕ) (offset : ℕ) → length literal ≤ offset → ends_there literal (earlier ++ text) (length earlier + offset) ≡ ends_there literal text offset
unfolding ends_there
there-behind literal earlier text offset reach =
    let n : ℕ = length literal in
    let place : length earlier + offset - n ≡ length earlier + (offset - n) = omega arith in
    ap (λ b. b && takes_all literal (take n (drop (length earlier + offset - n) (earlier ++ text)))) (le-leb n (length earlier + offset) (omega arith) ∙ sym (le-leb n offset reach))
    ∙ ap (λ t. nat_le n offset && takes_all literal (take n t)) (ap (λ k. drop k (earlier ++ text)) place ∙ drop-append-add earlier text (offset - n))

ends-behind : (literal : List LiteralByte) (earlier text : List ℕ) (offset : ℕ) → length literal ≤ offset → offset ≤ length text → EndsAt literal text offset ↔ EndsAt literal (earlier ++ text) (length earlier + offset)
ends-behind literal earlier text offset reach within = (
  (λ ends. ends_from_there literal (earlier ++ text) (length earlier + offset) (omega (arith, length-append earlier text)) (there-behind literal earlier text offset reach ∙ there_from_ends literal text offset ends)),
  (λ ends. ends_from_there literal text offset within (sym (there-behind literal earlier text offset reach) ∙ there_from_ends literal (earlier ++ text) (length earlier + offset) ends)),
)

module _ (literal : List LiteralByte) (u before bytes : List ℕ) (back : ReachesBack literal u before) (place : ℕ) (within : place ≤ length bytes) where
  pub stream-ends : EndsAt literal (before ++ bytes) (length before + place) ↔ EndsAt literal (u ++ bytes) (length u + place)
  stream-ends =
      let earlier : List ℕ = back.earlier in
      subst (λ w. EndsAt literal (before ++ bytes) (length before + place) ↔ EndsAt literal (w ++ bytes) (length w + place)) (sym back.split)
      elim back.enough [
        | inl all ↦ subst (λ e. EndsAt literal (before ++ bytes) (length before + place) ↔ EndsAt literal ((e ++ before) ++ bytes) (length (e ++ before) + place)) (sym all) ((λ ends. ends), (λ ends. ends))
        | inr reach ↦
            let offset : length earlier + (length before + place) ≡ length (earlier ++ before) + place = omega (arith, length-append earlier before) in
            subst (λ t. EndsAt literal (before ++ bytes) (length before + place) ↔ EndsAt literal t (length (earlier ++ before) + place)) (sym (append_assoc earlier before bytes))
            (subst (λ n. EndsAt literal (before ++ bytes) (length before + place) ↔ EndsAt literal (earlier ++ (before ++ bytes)) n) offset
            (ends-behind literal earlier (before ++ bytes) (length before + place) (omega arith) (omega (arith, length-append before bytes))))
      ]

pub hits-of_stream : (table : HitTable) (literals : List (List LiteralByte)) (u before bytes : List ℕ) (number : ℕ) (literal : List LiteralByte) → TellsHits table literals before bytes → slice_get literals number ≡ Some literal → ReachesBack literal u before →
    (place : ℕ) → place ≤ length bytes → (is_hit_at table number place ≡ true) ↔ EndsAt literal (u ++ bytes) (length u + place)
hits-of_stream table literals u before bytes number literal tells numbered back place within =
    let same = stream-ends literal u before bytes back place within in (
      (λ set.
          let hit : IsHit literals before bytes number place = (tells.places number place).0 set in
          same.0 (subst (λ l. EndsAt l (before ++ bytes) (length before + place)) (sym (get_or_from_slice_get literals number hit.literal literal hit.numbered) ∙ get_or_from_slice_get literals number literal literal numbered) hit.ends)),
      (λ ends. (tells.places number place).1 (record { literal = literal; numbered = numbered; within = within; ends = same.1 ends })),
    )

pub hits-of_block : (table : HitTable) (literals : List (List LiteralByte)) (u before bytes : List ℕ) (number block : ℕ) (literal : List LiteralByte) (hits : Hits) → TellsHits table literals before bytes → slice_get literals number ≡ Some literal →
    ReachesBack literal u before → 64 * block ≤ length bytes → ((i : ℕ) → i ≤ 64 → is_hit hits i ≡ is_hit_at table number (64 * block + i)) → AreHits hits literal (u ++ take (64 * block) bytes) (take 64 (drop (64 * block) bytes))
hits-of_block table literals u before bytes number block literal hits tells numbered back within bits i below =
    let at : ℕ = 64 * block in
    let front : List ℕ = u ++ take at bytes in
    let own : List ℕ = take 64 (drop at bytes) in
    let rest : List ℕ = drop 64 (drop at bytes) in
    let count : length own ≤ 64 × (at + length own ≤ length bytes) = (omega (arith, length-take 64 (drop at bytes)), omega (arith, length-take 64 (drop at bytes), length-drop at bytes)) in
    let whole : (front ++ own) ++ rest ≡ u ++ bytes =
    append_assoc front own rest ∙ ap (λ t. front ++ t) (take-append-drop 64 (drop at bytes)) ∙ append_assoc u (take at bytes) (drop at bytes) ∙ ap (λ t. u ++ t) (take-append-drop at bytes) in
    let long : length front ≡ length u + at = omega (arith, length-append u (take at bytes), length-take at bytes) in
    let offset : length u + (at + i) ≡ length front + i = omega arith in
    let stays = ends-stay literal (front ++ own) rest (length front + i) (omega (arith, length-append front own)) in
    let told = hits-of_stream table literals u before bytes number literal tells numbered back (at + i) (omega (arith, count.1)) in (
      (λ set. stays.1 (subst (λ t. EndsAt literal t (length front + i)) (sym whole) (subst (EndsAt literal (u ++ bytes)) offset (told.0 (sym (bits i (omega (arith, count.0))) ∙ set))))),
      (λ ends. bits i (omega (arith, count.0)) ∙ told.1 (subst (EndsAt literal (u ++ bytes)) (sym offset) (subst (λ t. EndsAt literal t (length front + i)) whole (stays.0 ends)))),
    )
