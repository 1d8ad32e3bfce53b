use Rattle.std.proofs.Common.{ℕ, ◌+◌, ◌∷◌, [], ◌++◌, ◌≡◌, true, false, length, subst, sym, ap, ◌∙◌, slice_index, arith, vec_len, Vec}
use Rattle.std.specs.declared.alloc.Global.{Global}
use Rattle.std.proofs.lemmas.Option.{slice_get_read}
use Rattle.hs_states.specs.AutomatonStates.{AreBuilt}
use Rattle.hs_states.proofs.BuildLemmas.{entered-builds, entered-few, entered-stays, entered-too_many}
use Rattle.hs_states.proofs.subsets.Subsets.take_class.Goals as goal

pub returns-in_default-clause-built : goal.returns-in_default-clause-built
returns-in_default-clause-built c =
    let a = c.args.automaton.now in
    let classes = c.args.classes.now in
    let self = c.args.self.now in
    let counted : vec_len classes.footings ≡ length classes.footings.items = classes.footings.ok.0 in
    record {
      built = λ never. absurd (let e : false ≡ true = never in cc);
      too_many = λ e.
          entered-too_many a classes.classes classes.firsts.items classes.footings.items (vec_len classes.footings) counted c.requires.classes self.known.items self.rows.items c.args.state c.args.class c.requires.built c.requires.class c.args.leads.now.from c.index.result.now c.moved-moved.result
          c.requires.state
          (slice_get_read classes.footings.items (vec_len classes.footings) c.args.class c.index.result.now classes.footings.ok.0 c.requires.class c.index.ensures)
          c.moved-moved.ensures.positions c.moved-moved.ensures.prev c.enter.new.self.known.items c.in_ok-number.field-0 c.in_default.not-Some c.in_ok-number.ensures.entered;
    }

pub overflow_cast-number : goal.overflow_cast-number
overflow_cast-number c =
    let self = c.args.self.now in
    omega (arith, entered-few c.args.automaton.now self.known.items c.enter.new.self.known.items c.moved-moved.result c.in_ok-number.field-0 c.in-Some.number c.requires.built.few c.in-Some.is c.in_ok-number.ensures.entered)

pub returns-clause-built : goal.returns-clause-built
returns-clause-built c =
    let a = c.args.automaton.now in
    let classes = c.args.classes.now in
    let self = c.args.self.now in
    let counted : vec_len classes.footings ≡ length classes.footings.items = classes.footings.ok.0 in
    let rows : c.push.new.self.items ≡ self.rows.items ++ c.in-Some.number ∷ [] =
    c.in_ok-push.ensures.items ∙ ap (λ (v : Vec ℕ Global). v.items ++ c.in-Some.number ∷ []) c.in_ok-number.ensures.rows in
    record {
      built = λ e.
          subst (λ rs. AreBuilt a (slice_index classes.classes) (vec_len classes.footings) c.enter.new.self.known.items rs c.args.state (c.args.class + 1)) (sym rows)
          (entered-builds a classes.classes classes.firsts.items classes.footings.items (vec_len classes.footings) counted c.requires.classes self.known.items self.rows.items c.args.state c.args.class c.requires.built c.requires.class c.args.leads.now.from c.index.result.now c.moved-moved.result
          c.requires.state
          (slice_get_read classes.footings.items (vec_len classes.footings) c.args.class c.index.result.now classes.footings.ok.0 c.requires.class c.index.ensures)
          c.moved-moved.ensures.positions c.moved-moved.ensures.prev c.enter.new.self.known.items c.in_ok-number.field-0 c.in-Some.number c.in-Some.is c.in_ok-number.ensures.entered);
      too_many = λ never. absurd (let e : true ≡ false = never in cc);
    }

pub returns-clause-kept : goal.returns-clause-kept
returns-clause-kept c = entered-stays c.args.automaton.now c.args.self.now.known.items c.enter.new.self.known.items c.moved-moved.result c.in_ok-number.field-0 c.args.state c.args.leads.now.from c.in_ok-number.ensures.entered c.requires.state
