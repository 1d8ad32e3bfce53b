use Rattle.std.proofs.Common.{◌≡◌, [], ◌∙◌, Bool, true, false, inl, inr, ◌⊎◌, get_or, sym, refl, ap, arith}
use Rattle.std.proofs.lemmas.Bool.{cases_eq, cases_lt}
use Rattle.std.proofs.lemmas.Option.{get_or_from_slice_get, slice_get_within}
use Rattle.hs_base.specs.Bits.{has_word_bit}
use Rattle.hs_bits.specs.Marks.{is_marked}
use Rattle.hs_lazy.specs.declared.parts.Member.{Member}
use Rattle.hs_lazy.specs.Tables.{member_of}
use Rattle.hs_lazy.proofs.cache.Cache.mark_members.Goals as goal

both : {A : Type 0} (b : Bool) → b ≡ true → b ≡ false → A
both b marked unset = absurd (cc)

either : (b : Bool) → (b ≡ true) ⊎ (b ≡ false)
either true = inl refl
either false = inr refl

abbrev nobody : Member
nobody = record { number = 0; engine = 0; start = 0; end = 0; wakers = record { words = [] }; is_dropped = false }

pub loop-k-preserved : goal.loop-k-preserved
loop-k-preserved c = record {
  room = c.mark_number.ensures.room ∙ c.loop-k.invariant.room;
  within = omega (arith, c.in-Some.ensures.high);
  kept = λ k marked. c.mark_number.ensures.kept k (c.loop-k.invariant.kept k marked);
  own = λ k marked unset. elim (either (is_marked c.loop-k.marks k)) [
    | inl before ↦ c.loop-k.invariant.own k before unset
    | inr none ↦ c.mark_number.ensures.own k marked none
  ];
  marked = λ k m own low is there bit. elim (cases_lt k c.loop-k.from) [
    | inl before ↦ c.mark_number.ensures.kept m.number (c.loop-k.invariant.marked k m own before is there bit)
    | inr high ↦ elim (cases_eq k c.in-Some.k) [
      | inl same ↦
          let it : get_or c.args.members.now c.in-Some.k nobody ≡ m =
          ap (λ n. get_or c.args.members.now n nobody) (sym same) ∙ get_or_from_slice_get c.args.members.now k m _ is in
          let at : (get_or c.args.members.now c.in-Some.k nobody).number ≡ m.number = ap (λ (x : Member). x.number) it in
          ap (is_marked c.mark_number.new.marks) (sym at) ∙ c.mark_number.ensures.marked own (ap (member_of c.args.self.now.dfas) at ∙ there)
      | inr other ↦ both (has_word_bit c.args.woken.now k) bit (c.in-Some.ensures.least k high (omega (arith, low, other)))
    ]
  ];
}

pub returns-clause-marked : goal.returns-clause-marked
returns-clause-marked c k m own is there bit = elim (cases_lt k c.loop-k.from) [
  | inl before ↦ c.loop-k.invariant.marked k m own before is there bit
  | inr high ↦ both (has_word_bit c.args.woken.now k) bit (c.in_default.ensures k high (slice_get_within c.args.members.now k m is))
]
