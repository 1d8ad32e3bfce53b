-- What a write makes of the machine.
use Rattle.std.proofs.Common.{◌≡◌, ℕ, Bool, false, List, [], ◌∷◌, ◌++◌, length, Option, None, Some, Result, refl, sym, subst, arith}
use Rattle.hs_kept.specs.KeptRegions.{IsWellKept}
use Rattle.hs_base.specs.Told.{Pair}
use Rattle.hs_base.proofs.NewLemmas.{told_more}
use Rattle.hs_text.specs.declared.commands.Verb.TheVariants as verb
use Rattle.hs_text.specs.declared.reply_lines.Word.TheVariants as word
use Rattle.hs_text.specs.declared.reply_lines.Reply.{Reply}
use Rattle.hs_text.specs.declared.reply_lines.Reply.TheVariants.{No}
use Rattle.hs_compile.specs.Databases.{Compiled}
use Rattle.hs_stream.specs.declared.stream.Stream.{Stream}
use Rattle.hs_stream.specs.Streams.{region_of}
use Rattle.hs_script.specs.Actions.{Write, Cut}
use Rattle.hs_script.specs.Bases.{Basis, Stream as Known, Of, Foreign}
use Rattle.hs_script.specs.Machine.{Answer, done, refused, unanswered, Moves, Takes}
use Rattle.hs_script.specs.Machine as move
use Rattle.hs_reader.specs.declared.fault.Break.{Break}
use Rattle.hs_tool.specs.declared.session.payload.Payload.{Payload}
use Rattle.hs_tool.specs.declared.session.streams.Streams.{Streams}
use Rattle.hs_reader.specs.Reading.{Ahead}
use Rattle.hs_reader.specs.Breaks.{is_lost}
use Rattle.hs_lines.specs.Passing.{Passes}
use Rattle.hs_tool.specs.OpenStreams.{stream_at, Follows, PerformsStill, PutsStream, RunsBasis}
use Rattle.hs_tool.specs.Scanning.{IsWritten}
use Rattle.hs_tool.specs.Payloads.{Turns, too_long, turned, IsPayloadRefused, IsPayloadWritten, IsPayloadTaken}
use Rattle.hs_lines.proofs.PassLemmas.{passed-nothing}
use Rattle.hs_tool.proofs.OpenLemmas.{known-offset, performs-unopened, performs-opened}

-- what bytes make of a stream of the machine
pub record IsTaken (basis : Basis) (s : Known) (v : List ℕ) (new : Stream) (pairs : List Pair) : Type 0 where
  pub t : Known
  pub takes : Takes basis v s t pairs
  pub follows : Follows basis (Some t) (Some new)

pub taken-of : {db : Compiled} (basis : Basis) (s : Known) (v : List ℕ) (old new : Stream) (pairs : List Pair) → RunsBasis db basis → Follows basis (Some s) (Some old) → IsWritten db old new v pairs → IsTaken basis s v new pairs
taken-of basis (Of h) v old new pairs is f written =
    let led = written.writes basis.plan h f.told is.is_database f.behind f.is_told in
    record {
      t = Of (h ++ v);
      takes = move.takes_new led.reports;
      follows = record { behind = led.behind; told = f.told ++ pairs; is_told = told_more basis.plan.patterns h v f.told pairs f.is_told led.reports };
    }
taken-of basis (Foreign region) v old new pairs is f written =
    let well : IsWellKept basis.plan (region_of new) = written.well basis.plan is.is_database (subst (IsWellKept basis.plan) (sym f.0) f.1) in
    record {
      t = Foreign (region_of new);
      takes =
          subst (λ r. Takes basis v (Foreign r) (Foreign (region_of new)) pairs) f.0
          (move.takes_foreign (record {
            well = well;
            offset = written.offset;
            within = record { named = written.tells.named basis.plan is.is_database; bounded = written.tells.bounded; rising = written.tells.rising };
            idle = written.idle;
          }));
      follows = (refl, well);
    }

-- a stream that is as it was
pub follows-same : (basis : Basis) (s : Known) {old new : Stream} → new ≡ old → Follows basis (Some s) (Some old) → Follows basis (Some s) (Some new)
follows-same basis s same f = subst (λ w. Follows basis (Some s) (Some w)) (sym same) f

-- all came
pub performs-written : {db : Compiled} {old now : Streams} {stream stream' : Stream} {pairs : List Pair} {reply : Reply} (name : List ℕ) (count : ℕ) (came : List ℕ) → stream_at old name ≡ Some stream → PutsStream old now name (Some stream') → Turns db count stream stream' came pairs reply → length came ≡ count → PerformsStill db old now (Write name came ∷ []) (record { reports = pairs; reply = Some reply } ∷ [])
performs-written {db} {old} {now} {stream} {stream'} name count came known puts (too_long long same) all =
    performs-opened (Write name came) (refused verb.Write word.Length) stream (Some stream') tt known puts
    (λ basis s is f. record {
      h = Some s;
      moves = move.too_long (omega (arith, long, all, known-offset basis s stream f));
      follows = follows-same basis s same f;
    })
performs-written {db} {old} {now} {stream} {stream'} name count came known puts (turned {pairs = pairs} room writes) all =
    subst (λ n. PerformsStill db old now (Write name came ∷ []) (done verb.Write pairs (Some n) ∷ [])) all
    (performs-opened (Write name came) (done verb.Write pairs (Some (length came))) stream (Some stream') tt known puts
    (λ basis s is f.
    let taken = taken-of basis s came stream stream' pairs is f writes in
    record {
      h = Some taken.t;
      moves = move.written (omega (arith, room, all, known-offset basis s stream f)) taken.takes;
      follows = taken.follows;
    }))

-- not all, or it isn't known
pub performs-cut : {db : Compiled} {old now : Streams} {stream stream' : Stream} {pairs : List Pair} {reply : Reply} (name : List ℕ) (count : ℕ) (came : List ℕ) → stream_at old name ≡ Some stream → PutsStream old now name (Some stream') → Turns db count stream stream' came pairs reply → PerformsStill db old now (Cut name count came ∷ []) (unanswered pairs ∷ [])
performs-cut {db} {old} {now} {stream} {stream'} name count came known puts (too_long long same) =
    performs-opened (Cut name count came) (unanswered []) stream (Some stream') tt known puts
    (λ basis s is f. record {
      h = Some s;
      moves = move.cut_too_long (omega (arith, long, known-offset basis s stream f));
      follows = follows-same basis s same f;
    })
performs-cut {db} {old} {now} {stream} {stream'} name count came known puts (turned {pairs = pairs} room writes) =
    performs-opened (Cut name count came) (unanswered pairs) stream (Some stream') tt known puts
    (λ basis s is f.
    let taken = taken-of basis s came stream stream' pairs is f writes in
    record {
      h = Some taken.t;
      moves = move.cut_written (omega (arith, room, known-offset basis s stream f)) taken.takes;
      follows = taken.follows;
    })

-- nothing is sent where the sink isn't asked
pub sends-none : (lost : Bool) (taken : Option (List ℕ)) (waited : List ℕ) → lost ≡ false → Passes lost taken taken waited waited []
sends-none lost taken waited kept = subst (λ b. Passes b taken taken waited waited []) (sym kept) (passed-nothing taken waited)

-- the stream isn't open
pub payload-unknown : {db : Compiled} {old now : Streams} {name : List ℕ} {count : ℕ} {before after : Option (List ℕ)} {ahead aheads : Ahead} {outcome : Result Payload Break} (key : List ℕ) (out : Option (List ℕ)) (waited : List ℕ) → key ≡ name → stream_at old key ≡ None → PutsStream old now key None → IsPayloadRefused word.Unknown count before after ahead aheads outcome → IsPayloadTaken db name count old now before after ahead aheads out out waited waited outcome
payload-unknown {db} {old} {now} {name} {count} {outcome = outcome} key out waited same unknown puts refuses =
    let came = refuses.come.came in
    let none : stream_at old name ≡ None = subst (λ n. stream_at old n ≡ None) same unknown in
    let kept : PutsStream old now name None = subst (λ n. PutsStream old now n None) same puts in
    record {
      came = came;
      pairs = [];
      reply = No verb.Write word.Unknown;
      comes = refuses.come.comes;
      all = λ e. performs-unopened (Write name came) (refused verb.Write word.Unknown) tt none kept (λ basis. move.write_unknown);
      part = performs-unopened (Cut name count came) (unanswered []) tt none kept (λ basis. move.cut_unknown);
      due = refuses.due;
      sends = sends-none (is_lost outcome) out waited refuses.kept;
    }

-- the stream is open
pub payload-known : {db : Compiled} {old now : Streams} {name : List ℕ} {count : ℕ} {stream stream' : Stream} {before after : Option (List ℕ)} {ahead aheads : Ahead} {out outs : Option (List ℕ)} {waited waits : List ℕ} {outcome : Result Payload Break} (key : List ℕ) → key ≡ name → stream_at old key ≡ Some stream → PutsStream old now key (Some stream') → IsPayloadWritten db name count stream stream' before after ahead aheads out outs waited waits outcome → IsPayloadTaken db name count old now before after ahead aheads out outs waited waits outcome
payload-known {db} {old} {now} {name} {count} {stream} {stream'} key same known puts writes =
    let here : stream_at old name ≡ Some stream = subst (λ n. stream_at old n ≡ Some stream) same known in
    let put : PutsStream old now name (Some stream') = subst (λ n. PutsStream old now n (Some stream')) same puts in
    record {
      came = writes.came;
      pairs = writes.pairs;
      reply = writes.reply;
      comes = writes.comes;
      all = λ e. performs-written name count writes.came here put writes.turns e;
      part = performs-cut name count writes.came here put writes.turns;
      due = writes.due;
      sends = writes.sends;
    }
