use Rattle.std.proofs.Common.{◌≡◌, ◌∙◌, Bool, true, false, inl, inr, ◌⊎◌, refl, arith}
use Rattle.std.proofs.lemmas.Bool.{cases_eq}
use Rattle.std.proofs.lemmas.Option.{slice_get_within}
use Rattle.hs_bits.specs.Marks.{is_marked}
use Rattle.hs_lazy.specs.Tables.{member_of, place_for}
use Rattle.hs_lazy.proofs.ChunkLemmas.{IsTold}
use Rattle.hs_lazy.proofs.ToldLemmas.{told-open}
use Rattle.hs_lazy.proofs.cache.Cache.mark_woken.Goals as goal

both : {A : Type 0} (b : Bool) → b ≡ true → b ≡ false → A
both b marked unset = absurd (cc)

either : (b : Bool) → (b ≡ true) ⊎ (b ≡ false)
either true = inl refl
either false = inr refl

unmarked : (old new : Bool) → (old ≡ true → new ≡ true) → new ≡ false → old ≡ false
unmarked true new kept unset = both new (kept refl) unset
unmarked false new kept unset = refl

pub loop-at-init : goal.loop-at-init
loop-at-init c = record {
  room = refl;
  kept = λ k marked. marked;
  own = λ k marked unset. both (is_marked c.args.marks.now k) marked unset;
  silent = λ k t p spot low is unset. absurd (omega (arith, low));
}

pub mark_dfa-requires : goal.mark_dfa-requires
mark_dfa-requires c = record { room = λ k n is. omega (arith, c.requires.room k n is, c.loop-at.invariant.room) }

pub loop-at-preserved : goal.loop-at-preserved
loop-at-preserved c = record {
  room = c.mark_dfa.ensures.room ∙ c.loop-at.invariant.room;
  kept = λ k marked. c.mark_dfa.ensures.kept k (c.loop-at.invariant.kept k marked);
  own = λ k marked unset. elim (either (is_marked c.loop-at.marks k)) [
    | inl before ↦ c.loop-at.invariant.own k before unset
    | inr none ↦ c.mark_dfa.ensures.own k marked none
  ];
  silent = λ k t p spot low is unset. elim (cases_eq p.dfa c.loop-at.at) [
    | inl same ↦ c.mark_dfa.ensures.silent k t p spot same is unset
    | inr other ↦ c.loop-at.invariant.silent k t p spot (omega (arith, low, other)) is (unmarked (is_marked c.loop-at.marks k) (is_marked c.mark_dfa.new.marks k) (c.mark_dfa.ensures.kept k) unset)
  ];
}

pub returns-clause-below : goal.returns-clause-below
returns-clause-below c count engines old k marked = elim (either (is_marked c.args.marks.now k)) [
  | inl before ↦ old k before
  | inr none ↦ (let n = c.loop-at.invariant.own k marked none in engines k n.0 n.1)
]

pub returns-clause-silent : goal.returns-clause-silent
returns-clause-silent c k t is unset =
    let it : IsTold (member_of c.args.self.now.dfas k) c.args.self.now.dfas.list.items c.args.self.now.runs.items (place_for c.args.self.now.dfas k) t = told-open c.args.self.now k t is in
    c.loop-at.invariant.silent k t it.at it.at_is
    (omega (arith, slice_get_within c.args.self.now.runs.items it.at.dfa it.run it.run_is, c.loop-at-test.false, c.args.self.now.runs.ok.0)) is unset
