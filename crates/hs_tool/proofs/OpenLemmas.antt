-- The streams by name with the files, and the machine that they stand for.
use Rattle.std.proofs.Common.{◌≡◌, ℕ, ◌+◌, ◌<◌, ◌≤◌, inl, inr, true, false, if◌then◌else◌, List, [], ◌∷◌, Option, None, Some, refl, sym, ap, ◌∙◌, subst, arith}
use Rattle.std.proofs.lemmas.Bool.{false≢true}
use Rattle.std.specs.Option.{is_some, IsSome, unwrap_or}
use Rattle.std.specs.declared.vec.Vec.{Vec}
use Rattle.std.specs.BTreeMap as tree
use Rattle.std.specs.BTreeMap.{btree_map_len}
use Rattle.std.specs.Ordering.{nat_cmp}
use Rattle.std.specs.Cmp.Lexicographic.{slice_cmp}
use Rattle.hs_base.specs.Lists.{Each}
use Rattle.hs_base.specs.Regions.{region_offset}
use Rattle.hs_base.specs.Told.{Pair}
use Rattle.hs_base.proofs.NewLemmas.{told_start}
use Rattle.hs_outside.specs.Store.{Told}
use Rattle.hs_reports.specs.Events.{Takes, still}
use Rattle.hs_text.specs.declared.commands.Verb.TheVariants as verb
use Rattle.hs_text.specs.declared.reply_lines.Word.TheVariants as word
use Rattle.hs_text.specs.declared.reply_lines.Reply.{Reply}
use Rattle.hs_compile.specs.Databases.{Compiled}
use Rattle.hs_stream.specs.declared.stream.Stream.{Stream}
use Rattle.hs_stream.specs.Foreign.{MayClose}
use Rattle.hs_stream.specs.Streams.{IsStreamOf, IsFresh, offset_of, region_of}
use Rattle.hs_script.specs.Actions.{Action, Open, Write, Cut, Reset, Close, Save, Expand, name_of}
use Rattle.hs_script.specs.Bases.{Basis, File, Untold, Stream as Known, Of, Foreign}
use Rattle.hs_script.specs.Bases as bases
use Rattle.hs_script.specs.Machine.{most_streams, Answer, done, refused, Moves, Machine, opens, put_by, IsShown, LeavesFiles, EndsBy}
use Rattle.hs_script.specs.Machine as move
use Rattle.hs_script.specs.Runs as run
use Rattle.hs_script.proofs.MachineLemmas.{same_or_not}
use Rattle.hs_script.proofs.JoinLemmas.{moved_to, moved_here, moved_elsewhere, steps_from}
use Rattle.hs_tool.specs.declared.session.streams.Streams.{Streams}
use Rattle.hs_tool.specs.Expanding.{Adds, AddsExpanded}
use Rattle.hs_tool.specs.OpenStreams.{stream_at, count_of, has_stream, PutsStream, AreStreamsOf, Follows, FollowsFile, IsAt, Holdings, kept, Performs, PerformsStill, RunsBasis, Tracks}
use Rattle.hs_tool.proofs.MapLemmas.{others_kept}
use Rattle.hs_tool.proofs.WrittenLemmas.{each_by}

-- ---- the map

-- a change of the map at a name
pub puts-updated : {old new : Streams} {name : List ℕ} {w : Option Stream} → tree.UpdatesBy (λ x y. slice_cmp nat_cmp x.items y.items) (λ k. slice_cmp nat_cmp name k.items) old.map new.map w → count_of new + has_stream (stream_at old name) ≡ count_of old + has_stream w → PutsStream old new name w
puts-updated {old} {new} {name} {w} h counted = record {
  here = h.1;
  others = λ other apart. others_kept name old.map new.map w h other apart;
  counted = counted;
}

-- no change
pub puts-same : (streams : Streams) (name : List ℕ) (w : Option Stream) → stream_at streams name ≡ w → PutsStream streams streams name w
puts-same streams name w is = record {
  here = is;
  others = λ other apart. refl;
  counted = ap (λ s. count_of streams + has_stream s) is;
}

-- a stream is taken out
pub puts-removed : {old new : Streams} {name : List ℕ} (taken : Option Stream) → taken ≡ stream_at old name → tree.UpdatesBy (λ x y. slice_cmp nat_cmp x.items y.items) (λ k. slice_cmp nat_cmp name k.items) old.map new.map None → btree_map_len new.map + (if is_some taken then 1 else 0) ≡ btree_map_len old.map → PutsStream old new name None
puts-removed {old} {new} {name} taken value h len =
    puts-updated h (subst (λ o. count_of new + has_stream o ≡ count_of old + 0) value (counted taken len))
  where
    counted : (o : Option Stream) → btree_map_len new.map + (if is_some o then 1 else 0) ≡ btree_map_len old.map → count_of new + has_stream o ≡ count_of old + 0
    counted None e = omega (arith, e)
    counted (Some stream) e = omega (arith, e)

-- a stream is put in
pub puts-inserted : {old new : Streams} {name : List ℕ} {stream : Stream} {A : Type 0} (key : Vec ℕ A) (before : Option Stream) → key.items ≡ name → before ≡ stream_at old key.items → stream_at old name ≡ None → tree.UpdatesBy (λ x y. slice_cmp nat_cmp x.items y.items) (λ k. slice_cmp nat_cmp key.items k.items) old.map new.map (Some stream) → btree_map_len new.map ≡ btree_map_len old.map + (if is_some before then 0 else 1) → PutsStream old new name (Some stream)
puts-inserted {old} {new} {name} {stream} key before is was unknown h len =
    let none : before ≡ None = was ∙ (ap (stream_at old) is ∙ unknown) in
    let grown : btree_map_len new.map ≡ btree_map_len old.map + (if is_some {T = Stream} None then 0 else 1) = subst (λ (o : Option Stream). btree_map_len new.map ≡ btree_map_len old.map + (if is_some o then 0 else 1)) none len in
    puts-updated
    (subst (λ n. tree.UpdatesBy (λ x y. slice_cmp nat_cmp x.items y.items) (λ k. slice_cmp nat_cmp n k.items) old.map new.map (Some stream)) is h)
    (subst (λ o. count_of new + has_stream o ≡ count_of old + 1) (sym unknown) (omega (arith, grown)))

-- a stream is changed in its place
pub puts-lent : {old new : Streams} {name : List ℕ} {stream changed : Stream} → stream_at old name ≡ Some stream → tree.WritesThrough (λ x y. slice_cmp nat_cmp x.items y.items) (λ k. slice_cmp nat_cmp name k.items) old.map changed new.map → PutsStream old new name (Some changed)
puts-lent {old} {new} {name} {stream} {changed} known h =
    puts-updated (h.3 (subst (λ o. IsSome o) (sym known) refl))
    (subst (λ o. count_of new + has_stream o ≡ count_of old + 1) (sym known) (omega (arith, h.2)))

-- all are as they were
pub puts-unchanged : {old new : Streams} {name : List ℕ} → stream_at old name ≡ None → new.map ≡ old.map → PutsStream old new name None
puts-unchanged {old} {new} {name} unknown same =
    let as_was : new ≡ old = ap (λ m. record { map = m }) same in
    subst (λ n. PutsStream old n name None) (sym as_was) (puts-same old name None unknown)

-- what a test tells of a stream
pub known-some : (o : Option Stream) → is_some o ≡ true → (stream : Stream) × (o ≡ Some stream)
known-some None e = absurd (false≢true e)
known-some (Some stream) e = (stream, refl)

pub known-none : (o : Option Stream) → is_some o ≡ false → o ≡ None
known-none None e = refl
known-none (Some stream) e = absurd (false≢true (sym e))

pub same_stream : {x y : Stream} → Some x ≡ Some y → x ≡ y
same_stream {x} e = ap (λ o. unwrap_or o x) e

-- all are streams of the database still
pub fits-put : {db : Compiled} {old new : Streams} {name : List ℕ} {w : Option Stream} → AreStreamsOf db old → PutsStream old new name w → ((stream : Stream) → w ≡ Some stream → IsStreamOf db stream) → AreStreamsOf db new
fits-put {db} {old} {new} {name} {w} fits puts this other stream at =
    elim (same_or_not other name) [
      | inl is ↦ this stream (sym puts.here ∙ (sym (ap (stream_at new) is) ∙ at))
      | inr apart ↦ fits other stream (sym (puts.others other apart) ∙ at)
    ]

-- ---- the machine

-- where no stream is, the machine has none
pub follows-none : (basis : Basis) (i : Option Known) → Follows basis i None → i ≡ None
follows-none basis None f = refl
follows-none basis (Some (Of h)) f = absurd f
follows-none basis (Some (Foreign region)) f = absurd f

-- what the machine has for a stream
pub record HasKnown (basis : Basis) (i : Option Known) (stream : Stream) : Type 0 where
  pub s : Known
  pub is : i ≡ Some s
  pub follows : Follows basis (Some s) (Some stream)

pub follows-some : (basis : Basis) (i : Option Known) (stream : Stream) → Follows basis i (Some stream) → HasKnown basis i stream
follows-some basis None stream f = absurd f
follows-some basis (Some (Of h)) stream f = record { s = Of h; is = refl; follows = f }
follows-some basis (Some (Foreign region)) stream f = record { s = Foreign region; is = refl; follows = f }

-- as many are open there as here
follows-count : (basis : Basis) (i : Option Known) (w : Option Stream) → Follows basis i w → opens i ≡ has_stream w
follows-count basis None None f = refl
follows-count basis None (Some stream) f = absurd f
follows-count basis (Some (Of h)) None f = absurd f
follows-count basis (Some (Foreign region)) None f = absurd f
follows-count basis (Some (Of h)) (Some stream) f = refl
follows-count basis (Some (Foreign region)) (Some stream) f = refl

-- as long
pub known-offset : (basis : Basis) (s : Known) (stream : Stream) → Follows basis (Some s) (Some stream) → bases.offset_of s ≡ offset_of stream
known-offset basis (Of h) stream f = sym f.behind.region.header.offset
known-offset basis (Foreign region) stream f = ap region_offset (sym f.0)

-- The machine's stream and its files move, and those here are then those of the machine.
pub record IsStepped (basis : Basis) (m : Machine) (action : Action) (answer : Answer) (w : Option Stream) (told : List ℕ → Told) : Type 0 where
  pub shown : File
  pub h : Option Known
  pub file : List ℕ → File
  pub shows : IsShown m.file action shown
  pub moves : Moves basis m.count shown (m.stream (name_of action)) action answer h
  pub follows : Follows basis h w
  pub leaves : LeavesFiles basis m.file file (put_by (m.stream (name_of action)) action answer.reply)
  pub tells : (name : List ℕ) → FollowsFile basis (file name) (told name)

-- one action on the stream of one name
pub performs-by : {db : Compiled} {old now : Holdings} (action : Action) (answer : Answer) (w : Option Stream) → PutsStream old.streams now.streams (name_of action) w → ((basis : Basis) (m : Machine) → RunsBasis db basis → Tracks basis m old → IsStepped basis m action answer w now.told) → Performs db old now (action ∷ []) (answer ∷ [])
performs-by {db} {old} {now} action answer w puts stepped basis m is tracks =
    record {
      after = after;
      run = run.more (steps_from m action answer step.shown step.h (count_of now.streams) step.file step.shows step.moves counts step.leaves) run.none;
      tracks = record { each = each; files = step.tells; counted = refl };
    }
  where
    step : IsStepped basis m action answer w now.told
    step = stepped basis m is tracks

    after : Machine
    after = moved_to m (name_of action) step.h (count_of now.streams) step.file

    counts : count_of now.streams + opens (m.stream (name_of action)) ≡ m.count + opens step.h
    counts =
        omega (arith, puts.counted, tracks.counted, follows-count basis (m.stream (name_of action)) (stream_at old.streams (name_of action)) (tracks.each (name_of action)), follows-count basis step.h w step.follows)

    each : (other : List ℕ) → Follows basis (after.stream other) (stream_at now.streams other)
    each other =
        elim (same_or_not other (name_of action)) [
          | inl same ↦
              subst (λ n. Follows basis (after.stream n) (stream_at now.streams n)) (sym same)
              (subst (λ i. Follows basis i (stream_at now.streams (name_of action))) (sym (moved_here m (name_of action) step.h (count_of now.streams) step.file))
              (subst (λ s. Follows basis step.h s) (sym puts.here) step.follows))
          | inr apart ↦
              subst (λ i. Follows basis i (stream_at now.streams other)) (sym (moved_elsewhere m (name_of action) step.h (count_of now.streams) step.file other apart))
              (subst (λ s. Follows basis (m.stream other) s) (sym (puts.others other apart)) (tracks.each other))
        ]

-- ---- actions that leave the files

-- an action that has nothing to do with files
abbrev pub IsPlain : Action → Type 0
IsPlain (Open name) = Unit {0}
IsPlain (Write name v) = Unit {0}
IsPlain (Cut name all v) = Unit {0}
IsPlain (Reset name) = Unit {0}
IsPlain (Close name) = Unit {0}
IsPlain (Save name file) = ⊥
IsPlain (Expand name file) = ⊥

plain-shown : (files : List ℕ → File) (action : Action) → IsPlain action → IsShown files action Untold
plain-shown files (Open name) plain = refl
plain-shown files (Write name v) plain = refl
plain-shown files (Cut name all v) plain = refl
plain-shown files (Reset name) plain = refl
plain-shown files (Close name) plain = refl
plain-shown files (Save name file) plain = absurd plain
plain-shown files (Expand name file) plain = absurd plain

plain-put : (i : Option Known) (action : Action) (reply : Option Reply) → IsPlain action → put_by i action reply ≡ None
plain-put None action reply plain = refl
plain-put (Some s) (Open name) reply plain = refl
plain-put (Some s) (Write name v) reply plain = refl
plain-put (Some s) (Cut name all v) reply plain = refl
plain-put (Some s) (Reset name) reply plain = refl
plain-put (Some s) (Close name) reply plain = refl
plain-put (Some s) (Save name file) reply plain = absurd plain
plain-put (Some s) (Expand name file) reply plain = absurd plain

-- nothing is put
pub leaves-all : (basis : Basis) (files : List ℕ → File) (i : Option Known) (action : Action) (reply : Option Reply) → put_by i action reply ≡ None → LeavesFiles basis files files (put_by i action reply)
leaves-all basis files i action reply nothing = subst (LeavesFiles basis files files) (sym nothing) (λ name. refl)

-- the machine's stream moves, and the stream here is then that of the machine
pub record IsMoved (basis : Basis) (count : ℕ) (i : Option Known) (action : Action) (answer : Answer) (w : Option Stream) : Type 0 where
  pub h : Option Known
  pub moves : Moves basis count Untold i action answer h
  pub follows : Follows basis h w

pub performs-move : {db : Compiled} {old now : Streams} (action : Action) (answer : Answer) (w : Option Stream) → IsPlain action → PutsStream old now (name_of action) w → ((basis : Basis) (i : Option Known) → RunsBasis db basis → Follows basis i (stream_at old (name_of action)) → IsMoved basis (count_of old) i action answer w) → PerformsStill db old now (action ∷ []) (answer ∷ [])
performs-move {db} {old} {now} action answer w plain puts moved told =
    performs-by {old = kept old told} {now = kept now told} action answer w puts
    (λ basis m is tracks.
    let step = moved basis (m.stream (name_of action)) is (tracks.each (name_of action)) in
    record {
      shown = Untold;
      h = step.h;
      file = m.file;
      shows = plain-shown m.file action plain;
      moves = subst (λ c. Moves basis c Untold (m.stream (name_of action)) action answer step.h) (sym tracks.counted) step.moves;
      follows = step.follows;
      leaves = leaves-all basis m.file (m.stream (name_of action)) action answer.reply (plain-put (m.stream (name_of action)) action answer.reply plain);
      tells = tracks.files;
    })

-- an action on a name that isn't open, which leaves it so
pub performs-unopened : {db : Compiled} {old now : Streams} (action : Action) (answer : Answer) → IsPlain action → stream_at old (name_of action) ≡ None → PutsStream old now (name_of action) None → ((basis : Basis) → Moves basis (count_of old) Untold None action answer None) → PerformsStill db old now (action ∷ []) (answer ∷ [])
performs-unopened {db} {old} action answer plain unknown puts moves =
    performs-move action answer None plain puts
    (λ basis i is f.
    let none = follows-none basis i (subst (λ s. Follows basis i s) unknown f) in
    record { h = None; moves = subst (λ j. Moves basis (count_of old) Untold j action answer None) (sym none) (moves basis); follows = tt })

-- an action on an open stream
pub performs-opened : {db : Compiled} {old now : Streams} (action : Action) (answer : Answer) (stream : Stream) (w : Option Stream) → IsPlain action → stream_at old (name_of action) ≡ Some stream → PutsStream old now (name_of action) w → ((basis : Basis) (s : Known) → RunsBasis db basis → Follows basis (Some s) (Some stream) → IsMoved basis (count_of old) (Some s) action answer w) → PerformsStill db old now (action ∷ []) (answer ∷ [])
performs-opened {db} {old} action answer stream w plain known puts moved =
    performs-move action answer w plain puts
    (λ basis i is f.
    let some = follows-some basis i stream (subst (λ s. Follows basis i s) known f) in
    subst (λ j. IsMoved basis (count_of old) j action answer w) (sym some.is) (moved basis some.s is some.follows))

-- ---- the commands

-- a stream of which no byte has come
pub at-fresh : {db : Compiled} (basis : Basis) (stream : Stream) → RunsBasis db basis → IsFresh db stream → IsAt basis [] stream
at-fresh basis stream is fresh = record { behind = fresh basis.plan is.is_database; told = []; is_told = told_start basis.plan.patterns }

-- what the end of a stream reported
pub ended-by : {db : Compiled} (basis : Basis) (s : Known) (stream : Stream) (pairs : List Pair) → RunsBasis db basis → Follows basis (Some s) (Some stream) → MayClose db stream pairs → EndsBy basis s pairs
ended-by basis (Of h) stream pairs is f may = move.ends_last (may.closes basis.plan h is.is_database f.behind)
ended-by basis (Foreign region) stream pairs is f may =
    subst (λ r. EndsBy basis (Foreign r) pairs) f.0
    (move.ends_foreign (
      each_by (λ p own. let low = own.0 in omega (arith, low)) pairs may.tells.bounded,
      record {
        named = may.tells.named basis.plan is.is_database;
        bounded = each_by (λ p own. (omega arith, own.1)) pairs may.tells.bounded;
        rising = may.tells.rising;
      },
    ))

pub performs-exists : {db : Compiled} {streams : Streams} (name : List ℕ) (stream : Stream) → stream_at streams name ≡ Some stream → PerformsStill db streams streams (Open name ∷ []) (refused verb.Open word.Exists ∷ [])
performs-exists {db} {streams} name stream known =
    performs-opened (Open name) (refused verb.Open word.Exists) stream (Some stream) tt known (puts-same streams name (Some stream) known)
    (λ basis s is f. record { h = Some s; moves = move.exists; follows = f })

pub performs-open : {db : Compiled} {old now : Streams} (name : List ℕ) → stream_at old name ≡ None → count_of old < most_streams → Adds db old now name → PerformsStill db old now (Open name ∷ []) (done verb.Open [] None ∷ [])
performs-open {db} {old} name unknown room adds =
    performs-move (Open name) (done verb.Open [] None) (Some adds.stream) tt adds.puts
    (λ basis i is f.
    let none = follows-none basis i (subst (λ s. Follows basis i s) unknown f) in
    record {
      h = Some (Of []);
      moves = subst (λ j. Moves basis (count_of old) Untold j (Open name) (done verb.Open [] None) (Some (Of []))) (sym none) (move.opened room);
      follows = at-fresh basis adds.stream is adds.fresh;
    })

pub performs-reset : {db : Compiled} {old now : Streams} (name : List ℕ) (stream stream' : Stream) (pairs : List Pair) → stream_at old name ≡ Some stream → PutsStream old now name (Some stream') → IsFresh db stream' → MayClose db stream pairs → PerformsStill db old now (Reset name ∷ []) (done verb.Reset pairs None ∷ [])
performs-reset {db} {old} name stream stream' pairs known puts fresh ends =
    performs-opened (Reset name) (done verb.Reset pairs None) stream (Some stream') tt known puts
    (λ basis s is f. record {
      h = Some (Of []);
      moves = move.reset (ended-by basis s stream pairs is f ends);
      follows = at-fresh basis stream' is fresh;
    })

pub performs-close : {db : Compiled} {old now : Streams} (name : List ℕ) (stream : Stream) (pairs : List Pair) → stream_at old name ≡ Some stream → PutsStream old now name None → MayClose db stream pairs → PerformsStill db old now (Close name ∷ []) (done verb.Close pairs None ∷ [])
performs-close {db} {old} name stream pairs known puts ends =
    performs-opened (Close name) (done verb.Close pairs None) stream None tt known puts
    (λ basis s is f. record { h = None; moves = move.closed (ended-by basis s stream pairs is f ends); follows = tt })

-- what is said of the pairs may be weakened
pub takes-weaker : {V : Type 0} {Tells : V → ℕ → ℕ → V → Type 0} {start end : V} {Holds Weaker : List Pair → Type 0} → Takes Tells start end Holds → ((pairs : List Pair) → Holds pairs → Weaker pairs) → Takes Tells start end Weaker
takes-weaker takes weaker = record { pairs = takes.pairs; through = takes.through; holds = weaker takes.pairs takes.holds }

pub performs-full : {db : Compiled} {streams : Streams} (name : List ℕ) → stream_at streams name ≡ None → most_streams ≤ count_of streams → PerformsStill db streams streams (Open name ∷ []) (refused verb.Open word.Full ∷ [])
performs-full {db} {streams} name unknown full =
    performs-unopened (Open name) (refused verb.Open word.Full) tt unknown (puts-same streams name None unknown) (λ basis. move.full full)

pub performs-memory : {db : Compiled} {old now : Streams} (name : List ℕ) → stream_at old name ≡ None → PutsStream old now name None → PerformsStill db old now (Open name ∷ []) (refused verb.Open word.Memory ∷ [])
performs-memory name unknown puts = performs-unopened (Open name) (refused verb.Open word.Memory) tt unknown puts (λ basis. move.memory)

pub fits-added : {db : Compiled} {old now : Streams} {name : List ℕ} → AreStreamsOf db old → Adds db old now name → AreStreamsOf db now
fits-added {db} fits adds = fits-put fits adds.puts (λ stream is. subst (λ s. IsStreamOf db s) (same_stream is) adds.fits)

pub fits-expanded : {db : Compiled} {old now : Streams} {name bytes : List ℕ} → AreStreamsOf db old → AddsExpanded db old now name bytes → AreStreamsOf db now
fits-expanded {db} fits adds = fits-put fits adds.puts (λ stream is. subst (λ s. IsStreamOf db s) (same_stream is) adds.expanded.fits)

-- where nothing was lent
pub performs-reset_unknown : {db : Compiled} {old now : Streams} (name : List ℕ) → stream_at old name ≡ None → PutsStream old now name None → PerformsStill db old now (Reset name ∷ []) (refused verb.Reset word.Unknown ∷ [])
performs-reset_unknown name unknown puts = performs-unopened (Reset name) (refused verb.Reset word.Unknown) tt unknown puts (λ basis. move.reset_unknown)

pub performs-close_unknown : {db : Compiled} {old now : Streams} (name : List ℕ) → stream_at old name ≡ None → PutsStream old now name None → PerformsStill db old now (Close name ∷ []) (refused verb.Close word.Unknown ∷ [])
performs-close_unknown name unknown puts = performs-unopened (Close name) (refused verb.Close word.Unknown) tt unknown puts (λ basis. move.close_unknown)

-- no report
pub takes-nothing : {V : Type 0} {Tells : V → ℕ → ℕ → V → Type 0} {now : V} {Holds : List Pair → Type 0} → Holds [] → Takes Tells now now Holds
takes-nothing holds = record { pairs = []; through = still; holds = holds }

pub no_stream : {stream : Stream} → None ≡ Some stream → ⊥
no_stream e = false≢true (ap is_some e)
