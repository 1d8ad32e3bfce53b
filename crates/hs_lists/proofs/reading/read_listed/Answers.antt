use Rattle.std.proofs.Common.{rules, ◌≡◌, ℕ, ◌≤◌, false, Result, Ok, Err, is_ok, is_err, if◌then◌else◌, List, ◌++◌, length, refl, sym, subst, ap, ◌∙◌, arith}
use Rattle.std.proofs.lemmas.Bool.{false≢true}
use Rattle.hs_outside.specs.Store.{Told, Begins, EndsBy}
use Rattle.hs_outside.proofs.Viewing.{Begins-nothing, Begins-read, ReadsAt-again, IsFile-read}
use Rattle.hs_lists.specs.Causes.{cause_of}
use Rattle.hs_lists.specs.ListKinds.{kind_of}
use Rattle.hs_lists.specs.Accepting.{IsFormCause}
use Rattle.hs_lists.specs.Endings.{greatest_list, long_list, no_memory}
use Rattle.hs_lists.proofs.ReadingLemmas.{IsLonger-read, doomed-stops}
use Rattle.hs_lists.proofs.reading.read_listed.Goals as goal

-- what the bytes are behind a call that found memory for more
extended : {T E : Type 0} (result : Result T E) (items more less : List ℕ) → items ≡ (if is_ok result then more else less) → is_err result ≡ false → items ≡ more
extended (Ok x) items more less is kept = is
extended (Err x) items more less is kept = absurd (false≢true (sym kept))

pub loop-bytes-init : goal.loop-bytes-init
loop-bytes-init g c =
    let told = g.S.Store.told c.args.store.now c.args.name.now in
    record {
      begins = subst (λ (seen : List ℕ). Begins told seen) (sym c.new-bytes.ensures.items) (Begins-nothing told);
      within = omega (arith, ap length c.new-bytes.ensures.items);
      told = refl;
      counted = refl;
    }

pub returns-in-Ok-eq0-clause-whole : goal.returns-in-Ok-eq0-clause-whole
returns-in-Ok-eq0-clause-whole g c = IsFile-read _ c.loop-bytes.bytes.items c.len.result _ _ _ c.loop-bytes.invariant.begins (omega arith) (ReadsAt-again _ _ _ _ _ _ _ c.loop-bytes.invariant.told c.in-Ok-eq0.ensures.given) c.in-Ok-eq0.field-0-test (omega arith)

pub returns-then-len-n-clause-fault : goal.returns-then-len-n-clause-fault
returns-then-len-n-clause-fault g c =
    long_list
    (IsLonger-read _ c.len.result greatest_list _ _ c.in-Ok.n (omega (arith, c.loop-bytes.invariant.within)) (omega (arith, c.if-len-n.true)) (ReadsAt-again _ _ _ _ _ _ _ c.loop-bytes.invariant.told c.in-Ok.ensures.given))
    (c.in-Ok.ensures.counted ∙ c.loop-bytes.invariant.counted)

pub returns-then-is_err-clause-fault : goal.returns-then-is_err-clause-fault
returns-then-is_err-clause-fault g c = no_memory (c.in-Ok.ensures.counted ∙ c.loop-bytes.invariant.counted)

pub returns-in-Ok-skip_rest-clause-fault : goal.returns-in-Ok-skip_rest-clause-fault
returns-in-Ok-skip_rest-clause-fault g c =
    let bytes = c.extend_from_slice.new.self.items in
    let told = c.in-Ok.ensures.kept ∙ c.loop-bytes.invariant.told in
    let kept : is_err c.extend_from_slice.result ≡ false = search rules in
    let grown = extended c.extend_from_slice.result _ _ _ c.extend_from_slice.ensures.items kept in
    let begins : Begins (g.S.Store.told c.args.store.now c.args.name.now) bytes = subst (λ (seen : List ℕ). Begins (g.S.Store.told c.args.store.now c.args.name.now) seen) (sym grown) (Begins-read _ c.loop-bytes.bytes.items c.len.result _ _ _ c.loop-bytes.invariant.begins (omega arith) (ReadsAt-again _ _ _ _ _ _ _ c.loop-bytes.invariant.told c.in-Ok.ensures.given)) in
    let within : length bytes ≤ greatest_list = search rules in
    doomed-stops (kind_of c.args.kind) c.args.name.now _ _ _ bytes (cause_of c.in-Some.fault) begins within
    (subst (λ (tells : List ℕ → Told). EndsBy (tells c.args.name.now) greatest_list) told c.in-Ok-skip_rest.ensures.end)
    (c.in-Ok-skip_rest.ensures.counted ∙ c.in-Ok.ensures.counted ∙ c.loop-bytes.invariant.counted)
    (subst (λ (seen : List ℕ). (rest : List ℕ) → IsFormCause (kind_of c.args.kind) (seen ++ rest) (cause_of c.in-Some.fault)) c.as_slice.ensures.value c.in-Some.ensures)
