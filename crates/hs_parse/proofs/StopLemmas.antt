-- Where the reading stops, and how far it comes before.
use Rattle.std.proofs.Common.{◌≡◌, ℕ, ◌+◌, ◌<◌, ◌≤◌, inl, inr, Bool, false, List, [], ◌∷◌, length, Option, refl, ap, arith}
use Rattle.hs_base.specs.declared.flags.Flags.{Flags}
use Rattle.hs_base.specs.declared.refusal.Refusal.{Refusal}
use Rattle.hs_base.specs.declared.refusal.Refusal.TheVariants.{Syntax, DepthLimit}
use Rattle.hs_base.specs.Trees.{Tree, AreBounds}
use Rattle.hs_syntax.specs.declared.mode.Mode.{Mode}
use Rattle.hs_parse.specs.declared.fault.ParseFault.{ParseFault}
use Rattle.hs_parse.specs.declared.fault.ParseFault.TheVariants as fault
use Rattle.hs_parse.specs.declared.spot.Spot.{Spot}
use Rattle.hs_parse.specs.Spots.{start_of}
use Rattle.hs_parse.specs.Tokens.{Token, ending, closing, bar, opening, quantifier, setting, faulty, Next}
use Rattle.hs_parse.specs.Grammar.{greatest_length, greatest_depth, NoQuantifier, Atom, Item, Sequence, Alternation}
use Rattle.hs_parse.specs.Faults.{Before, beginning, atom, repeated, state, start_state, Run, stops, place_of, move, here, quantifier_faults, quantifier_move, Fault, IsParseFault}
use Rattle.hs_parse.specs.Reading.{at_closing, at_ending, EndsSequence, with_group, at_bar, ReadsOn, IsLeastOf, StopsFrom, StopsWith}
use Rattle.hs_parse.proofs.FaultLemmas.{syntax_least, only_least, wrong_move}
use Rattle.hs_parse.proofs.RunLemmas.{run_then, one_step}
use Rattle.hs_parse.proofs.GrammarLemmas.{no_quantifier}
use Rattle.hs_parse.proofs.PathLemmas.{opens_group, opens_no_group, quantifier_runs, atom_runs, item_runs, sequence_runs, alternation_runs, fault_of}

-- a reading that has come to a spot stops there
stop_here :
    (text : List ℕ) (flags : Flags) (s start behind : Spot) (made : Token) (outside : List Mode) (before : Before)
    (place : ℕ) (refusals : List Refusal) (refusal : Refusal) →
    Next text s start made behind → move made start behind outside before ≡ stops place refusals →
    IsLeastOf refusal refusals → Run text (start_state flags) (state s outside before) → StopsWith text flags refusal
stop_here text flags s start behind made outside before place refusals refusal there m least run = record {
  at = place;
  refusals = refusals;
  stop = record {
    last = state s outside before;
    run = run;
    token = made;
    start = start;
    behind = behind;
    there = there;
    stopped = m;
  };
  is = least;
}

-- at a form that is refused
pub faulty_stops :
    (text : List ℕ) (depth : ℕ) (s start behind : Spot) (refusal : Refusal) →
    Next text s start (faulty refusal) behind → StopsFrom text depth s (fault.Refused refusal)
faulty_stops text depth s start behind refusal there flags outside before h ready run =
    stop_here text flags s start behind (faulty refusal) outside before (place_of refusal) (refusal ∷ []) refusal there refl
    (only_least refusal) run

-- at a quantifier that follows no atom
pub quantifier_stops :
    (text : List ℕ) (depth : ℕ) (s start behind : Spot) (n : ℕ) (m : Option ℕ) (possessive : Bool) →
    Next text s start (quantifier n m possessive) behind → StopsFrom text depth s (fault.Refused (Syntax start.place))
quantifier_stops text depth s start behind n m possessive there flags outside before h (inl e) run =
    stop_here text flags s start behind (quantifier n m possessive) outside before start.place
    (quantifier_faults start.place n m possessive beginning) (Syntax start.place) there
    (ap (λ b. quantifier_move start.place behind outside (quantifier_faults start.place n m possessive b)) e)
    (syntax_least start.place _) run
quantifier_stops text depth s start behind n m possessive there flags outside before h (inr bare) run =
    absurd (bare n m possessive start behind there)

-- at a group within too many
pub depth_stops :
    (text : List ℕ) (depth : ℕ) (s start behind : Spot) →
    greatest_depth ≤ depth → Next text s start opening behind →
    StopsFrom text depth s (fault.Refused DepthLimit)
depth_stops text depth s start behind deep there flags outside before h ready run =
    stop_here text flags s start behind opening outside before start.place (DepthLimit ∷ []) DepthLimit there
    (opens_no_group start behind outside before (omega (arith, deep, h))) (only_least DepthLimit) run

-- what stops inside of a group
pub group_stops :
    (text : List ℕ) (depth : ℕ) (s start inner : Spot) (reason : ParseFault) →
    depth < greatest_depth → Next text s start opening inner →
    StopsFrom text (depth + 1) inner reason → StopsFrom text depth s reason
group_stops text depth s start inner (fault.Refused refusal) below there stop = λ flags outside before h ready run.
    stop flags (start.mode ∷ outside) beginning (omega arith) (inl refl)
    (run_then run (one_step there (opens_group start inner outside before (omega arith))))
group_stops text depth s start inner fault.Memory below there stop = tt

-- a group that isn't closed
pub unclosed_stops :
    (text : List ℕ) (depth : ℕ) (s start inner last end t : Spot) (trees : List Tree) →
    depth < greatest_depth → Next text s start opening inner →
    Alternation text (depth + 1) inner trees last → Next text last end ending t →
    StopsFrom text depth s (fault.Refused (Syntax end.place))
unclosed_stops text depth s start inner last end t trees below there whole ended flags outside before h ready run =
    let inside = alternation_runs whole (start.mode ∷ outside) beginning (omega arith) in
    let opened = one_step there (opens_group start inner outside before (omega arith)) in
    stop_here text flags last end t ending (start.mode ∷ outside) inside.after end.place (Syntax end.place ∷ [])
    (Syntax end.place) ended refl (only_least (Syntax end.place)) (run_then run (run_then opened inside.run))

-- a quantifier with which something is wrong
pub wrong_stops :
    (text : List ℕ) (depth : ℕ) (s middle start t : Spot) (n : ℕ) (m : Option ℕ) (possessive : Bool)
    (tree : Tree) (refusal : Refusal) →
    Atom text depth s tree middle → Next text middle start (quantifier n m possessive) t →
    IsLeastOf refusal (quantifier_faults start.place n m possessive atom) →
    StopsFrom text depth s (fault.Refused refusal)
wrong_stops text depth s middle start t n m possessive tree refusal a q least flags outside before h ready run =
    stop_here text flags middle start t (quantifier n m possessive) outside atom start.place
    (quantifier_faults start.place n m possessive atom) refusal q
    (wrong_move start.place t outside (quantifier_faults start.place n m possessive atom) refusal least.has) least
    (run_then run (atom_runs a outside before h))

-- a quantifier behind another one
pub twice_stops :
    (text : List ℕ) (depth : ℕ) (s middle start t again u : Spot) (n k : ℕ) (m l : Option ℕ) (possessive : Bool)
    (tree : Tree) →
    Atom text depth s tree middle → Next text middle start (quantifier n m false) t → AreBounds n m →
    Next text t again (quantifier k l possessive) u →
    StopsFrom text depth s (fault.Refused (Syntax again.place))
twice_stops text depth s middle start t again u n k m l possessive tree a q bounds r flags outside before h ready run =
    stop_here text flags t again u (quantifier k l possessive) outside repeated again.place
    (quantifier_faults again.place k l possessive repeated) (Syntax again.place) r refl (syntax_least again.place _)
    (run_then run (run_then (atom_runs a outside before h) (quantifier_runs q bounds outside)))

-- a reading that comes to a spot and stops later
pub passes_stops :
    (text : List ℕ) (depth : ℕ) (s t : Spot) (reason : ParseFault) →
    ReadsOn text depth s t → StopsFrom text depth t reason → StopsFrom text depth s reason
passes_stops text depth s t (fault.Refused refusal) passes stop = λ flags outside before h ready run.
    let there = passes outside before h ready in stop flags outside there.0 h there.1 (run_then run there.2)
passes_stops text depth s t fault.Memory passes stop = tt

pub passes_here : (text : List ℕ) (depth : ℕ) (s : Spot) → ReadsOn text depth s s
passes_here text depth s outside before h ready = (before, ready, here)

pub passes_then :
    (text : List ℕ) (depth : ℕ) (s t u : Spot) →
    ReadsOn text depth s t → ReadsOn text depth t u → ReadsOn text depth s u
passes_then text depth s t u first second outside before h ready =
    let one = first outside before h ready in
    let two = second outside one.0 h one.1 in
    (two.0, two.1, run_then one.2 two.2)

-- an item that no quantifier follows
pub item_passes :
    (text : List ℕ) (depth : ℕ) (s t : Spot) (tree : Tree) →
    Item text depth s tree t → NoQuantifier text t → ReadsOn text depth s t
item_passes text depth s t tree item bare outside before h ready =
    let there = item_runs item outside before h in (there.after, inr bare, there.run)

-- a change of options
pub setting_passes : (text : List ℕ) (depth : ℕ) (s start t : Spot) → Next text s start setting t → ReadsOn text depth s t
setting_passes text depth s start t p outside before h ready = (beginning, inl refl, one_step p refl)

-- no quantifier stands where a sequence ends
pub ended_bare : {text : List ℕ} {s : Spot} → EndsSequence text s → NoQuantifier text s
ended_bare (with_group (at_closing p)) = no_quantifier (record { made = _; start = _; behind = _; there = p; told = refl })
ended_bare (with_group (at_ending p)) = no_quantifier (record { made = _; start = _; behind = _; there = p; told = refl })
ended_bare (at_bar p) = no_quantifier (record { made = _; start = _; behind = _; there = p; told = refl })

-- a whole sequence
pub sequence_passes :
    (text : List ℕ) (depth : ℕ) (s t : Spot) (trees : List Tree) →
    Sequence text depth s trees t → EndsSequence text t → ReadsOn text depth s t
sequence_passes text depth s t trees row ended outside before h ready =
    let there = sequence_runs row outside before h in (there.after, inr (ended_bare ended), there.run)

-- a `|`
pub bar_passes : (text : List ℕ) (depth : ℕ) (s start t : Spot) → Next text s start bar t → ReadsOn text depth s t
bar_passes text depth s start t mark outside before h ready = (beginning, inl refl, one_step mark refl)

-- a reading that stops is the fault of a text that isn't too long
pub stops_fault :
    (text : List ℕ) (flags : Flags) (reason : ParseFault) →
    length text ≤ greatest_length → StopsFrom text 0 (start_of flags) reason → IsParseFault text flags reason
stops_fault text flags (fault.Refused refusal) short stop =
    let there = stop flags [] beginning refl (inl refl) here in fault_of short there.stop there.is
stops_fault text flags fault.Memory short stop = tt

-- a `)` without a group
pub closing_fault :
    (text : List ℕ) (flags : Flags) (last close t : Spot) (trees : List Tree) →
    length text ≤ greatest_length → Alternation text 0 (start_of flags) trees last → Next text last close closing t →
    Fault text flags (Syntax close.place)
closing_fault text flags last close t trees short whole there =
    let run = alternation_runs whole [] beginning refl in
    let stop =
    stop_here text flags last close t closing [] run.after close.place (Syntax close.place ∷ []) (Syntax close.place) there refl
    (only_least (Syntax close.place)) run.run in
    fault_of short stop.stop stop.is
