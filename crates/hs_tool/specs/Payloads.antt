-- The bytes of a write, as they come.
use Rattle.std.specs.Prelude.{◌≡◌, ℕ, ◌+◌, ◌<◌, ◌≤◌, Bool, true, false, List, [], ◌∷◌, length, Option, Some, Result, Ok}
use Rattle.std.specs.Prelude.{Err}
use Rattle.std.specs.List.{flat_map}
use Rattle.hs_base.specs.Told.{Pair}
use Rattle.hs_text.specs.declared.reply_lines.Reply.{Reply}
use Rattle.hs_text.specs.declared.reply_lines.Reply.TheVariants.{Done, No}
use Rattle.hs_text.specs.declared.reply_lines.Word.{Word}
use Rattle.hs_text.specs.declared.reply_lines.Word.TheVariants as word
use Rattle.hs_text.specs.declared.commands.Verb.TheVariants as verb
use Rattle.hs_base.specs.Offsets.{greatest_offset}
use Rattle.hs_compile.specs.Databases.{Compiled}
use Rattle.hs_stream.specs.declared.stream.Stream.{Stream}
use Rattle.hs_stream.specs.Streams.{offset_of}
use Rattle.hs_script.specs.Actions.{Write, Cut}
use Rattle.hs_script.specs.Machine.{unanswered}
use Rattle.hs_script.specs.Runs.{named_line}
use Rattle.hs_reader.specs.declared.fault.Break.{Break}
use Rattle.hs_reader.specs.declared.fault.Break.TheVariants as stop
use Rattle.hs_tool.specs.declared.session.payload.Payload.{Payload}
use Rattle.hs_tool.specs.declared.session.streams.Streams.{Streams}
use Rattle.hs_reader.specs.Reading.{Ahead, Consumes}
use Rattle.hs_reader.specs.Breaks.{IsDry, IsTooLong, is_lost}
use Rattle.hs_lines.specs.Passing.{Passes}
use Rattle.hs_tool.specs.OpenStreams.{PerformsStill}
use Rattle.hs_tool.specs.Scanning.{IsWritten, Scans}

-- how the bytes of a write end: all came, or the input ended before or was broken off before, or the sink failed
abbrev pub PayloadEnds : ℕ → ℕ → Ahead → Result Bool Break → Type 0
PayloadEnds came count ahead (Ok true) = came ≡ count
PayloadEnds came count ahead (Ok false) = (came < count) × (ahead.ended ≡ true)
PayloadEnds came count ahead (Err stop.Read) = (came < count) × IsDry ahead
PayloadEnds came count ahead (Err stop.Limit) = (came < count) × IsTooLong ahead
PayloadEnds came count ahead (Err stop.Write) = ahead.ended ≡ false

-- Of so many bytes these came.
pub record Comes (before now : Option (List ℕ)) (old new : Ahead) (count : ℕ) (came : List ℕ)
    (outcome : Result Bool Break) : Type 0 where
  pub consumes : Consumes before now old new came
  pub within : length came ≤ count
  pub ends : PayloadEnds (length came) count new outcome

-- Some of so many bytes came.
pub record SomeCome (before now : Option (List ℕ)) (old new : Ahead) (count : ℕ)
    (outcome : Result Bool Break) : Type 0 where
  pub came : List ℕ
  pub comes : Comes before now old new count came outcome

-- whether all bytes came
abbrev pub whole_of : Result Payload Break → Result Bool Break
whole_of (Ok payload) = Ok payload.whole
whole_of (Err stop) = Err stop

-- the answer that is due, where one is
abbrev pub IsDue : Result Payload Break → Reply → Type 0
IsDue (Ok payload) reply = payload.reply ≡ reply
IsDue (Err stop) reply = Unit {0}

-- So many bytes were scanned as they came, and the lines of what they report sent.
pub record IsPayloadScanned (db : Compiled) (name : List ℕ) (count : ℕ) (old new : Stream)
    (before now : Option (List ℕ)) (ahead aheads : Ahead) (taken takes : Option (List ℕ)) (waited waits : List ℕ)
    (outcome : Result Bool Break) : Type 0 where
  pub came : List ℕ
  pub comes : Comes before now ahead aheads count came outcome
  pub scanned : Scans db (Some name) old new came (λ text. Passes (is_lost outcome) taken takes waited waits text)

-- So many bytes were dropped as they came; this is the answer.
pub record IsPayloadRefused (word : Word) (count : ℕ) (before now : Option (List ℕ)) (ahead aheads : Ahead)
    (outcome : Result Payload Break) : Type 0 where
  pub come : SomeCome before now ahead aheads count (whole_of outcome)
  pub due : IsDue outcome (No verb.Write word)
  pub kept : is_lost outcome ≡ false

-- What a write of so many bytes, of which these came, makes of a stream: it is too long, or these were written.
pub data Turns (db : Compiled) (count : ℕ) (old new : Stream) (came : List ℕ) : List Pair → Reply → Type 0 where
  too_long :
      greatest_offset < offset_of old + count →
      new ≡ old →
      Turns db count old new came [] (No verb.Write word.Length)
  turned : {pairs : List Pair} →
      offset_of old + count ≤ greatest_offset →
      IsWritten db old new came pairs →
      Turns db count old new came pairs (Done verb.Write (Some count))

-- So many bytes were written to the stream, or dropped.
pub record IsPayloadWritten (db : Compiled) (name : List ℕ) (count : ℕ) (old new : Stream)
    (before now : Option (List ℕ)) (ahead aheads : Ahead) (taken takes : Option (List ℕ)) (waited waits : List ℕ)
    (outcome : Result Payload Break) : Type 0 where
  pub came : List ℕ
  pub pairs : List Pair
  pub reply : Reply
  pub comes : Comes before now ahead aheads count came (whole_of outcome)
  pub turns : Turns db count old new came pairs reply
  pub due : IsDue outcome reply
  pub sends : Passes (is_lost outcome) taken takes waited waits (flat_map (named_line name) pairs)

-- The machine took these bytes of so many, and answers so: as a write where all came, and as one that was cut short.
pub record IsPayloadTaken (db : Compiled) (name : List ℕ) (count : ℕ) (old new : Streams) (before now : Option (List ℕ))
    (ahead aheads : Ahead) (taken takes : Option (List ℕ)) (waited waits : List ℕ)
    (outcome : Result Payload Break) : Type 0 where
  pub came : List ℕ
  pub pairs : List Pair
  pub reply : Reply
  pub comes : Comes before now ahead aheads count came (whole_of outcome)
  pub all : length came ≡ count →
      PerformsStill db old new (Write name came ∷ []) (record { reports = pairs; reply = Some reply } ∷ [])
  pub part : PerformsStill db old new (Cut name count came ∷ []) (unanswered pairs ∷ [])
  pub due : IsDue outcome reply
  pub sends : Passes (is_lost outcome) taken takes waited waits (flat_map (named_line name) pairs)
