use Rattle.std.proofs.Common.{◌≡◌, ◌∙◌, Some, None, Option, Bool, true, false, inl, inr, sym, ap}
use Rattle.std.proofs.lemmas.Bool.{cases_eq}
use Rattle.hs_bits.specs.Marks.{is_marked}
use Rattle.hs_lazy.specs.declared.parts.Member.{Member}
use Rattle.hs_lazy.specs.Tables.{engine_at}
use Rattle.hs_lazy.proofs.ToldLemmas.{engine-of}
use Rattle.hs_lazy.proofs.cache.Cache.mark_number.Goals as goal

both : {A : Type 0} (b : Bool) → b ≡ true → b ≡ false → A
both b marked unset = absurd (cc)

nobody : {A : Type 0} (o : Option Member) (m : Member) → o ≡ None → o ≡ Some m → A
nobody o m none some = absurd (cc)

pub returns-in_default-clause-own : goal.returns-in_default-clause-own
returns-in_default-clause-own c k marked unset = both (is_marked c.args.marks.now k) marked unset

pub returns-in_default-clause-marked : goal.returns-in_default-clause-marked
returns-in_default-clause-marked c own is = nobody c.member.result own c.in_default.is (c.member.ensures ∙ is)

pub write-requires : goal.write-requires
write-requires c = c.requires.room c.args.number c.in-Some._own.engine (engine-of c.args.self.now.dfas c.args.number c.in-Some._own (sym c.member.ensures ∙ c.in-Some.is))

pub returns-clause-kept : goal.returns-clause-kept
returns-clause-kept c k marked = elim (cases_eq k c.args.number) [
  | inl same ↦ ap (is_marked c.write.new.self) same ∙ c.write.ensures.put
  | inr other ↦ c.write.ensures.others k other ∙ marked
]

pub returns-clause-own : goal.returns-clause-own
returns-clause-own c k marked unset = elim (cases_eq k c.args.number) [
  | inl same ↦ (c.in-Some._own.engine, ap (engine_at c.args.self.now.dfas) same ∙ engine-of c.args.self.now.dfas c.args.number c.in-Some._own (sym c.member.ensures ∙ c.in-Some.is))
  | inr other ↦ both (is_marked c.args.marks.now k) (sym (c.write.ensures.others k other) ∙ marked) unset
]
