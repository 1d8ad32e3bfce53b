use Rattle.std.proofs.Common.{◌≡◌, ◌<◌, ◌^◌, ℕ, Bool, true, false, refl, inl, inr, arith}
use Rattle.std.proofs.lemmas.Bool.{cases_lt}
use Rattle.hs_bits.specs.Marks.{is_marked, mark_room}
use Rattle.hs_bits.proofs.WordLemmas.{words-past}
use Rattle.hs_nodes.proofs.openings.Openings.are_over.Goals as goal

pub overflow_add-from : goal.overflow_add-from
overflow_add-from c =
    let low : c.in-Some.k < 2 ^ 32 = c.requires.few c.in-Some.k c.in-Some.ensures.is in
    omega (arith, low)

pub returns : goal.returns
returns c told = record {
  far = omega (arith, c.if-at-le-FAR_BYTES.false);
  unmarked = λ k set. by k set (is_marked c.args.marks.now k) refl;
} where
  by : (k : ℕ) → is_marked c.args.self.now.nodes k ≡ true → (b : Bool) → is_marked c.args.marks.now k ≡ b → is_marked c.args.marks.now k ≡ false
  by k set false is = is
  by k set true is = elim (cases_lt k c.loop-k.from) [
    | inl low ↦ c.loop-k.invariant k low set
    | inr high ↦ elim (cases_lt k (mark_room c.args.marks.now)) [
      | inl within ↦ c.in_default.ensures k (omega (arith, high)) within
      | inr beyond ↦ words-past c.args.marks.now k (omega (arith, beyond))
    ]
  ]
