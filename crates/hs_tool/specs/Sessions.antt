-- The session of a script: what its methods go by, what they keep, and what they do, with the session before and after.
use Rattle.std.specs.Prelude.{◌≡◌, ℕ, Bool, List, Option, Result}
use Rattle.hs_outside.specs.Store.{Told}
use Rattle.hs_stream.specs.Caches.{IsCacheOf}
use Rattle.hs_stream.specs.declared.stream.Stream.{Stream}
use Rattle.hs_reader.specs.declared.fault.Break.{Break}
use Rattle.hs_tool.specs.declared.session.Session.{Session}
use Rattle.hs_tool.specs.declared.session.payload.Payload.{Payload}
use Rattle.hs_tool.specs.declared.session.streams.Streams.{Streams}
use Rattle.hs_tool.specs.declared.session.fault.ScriptStop.{ScriptStop}
use Rattle.hs_tool.specs.OpenStreams.{AreStreamsOf, kept}
use Rattle.hs_tool.specs.Payloads.{IsPayloadScanned, IsPayloadTaken, IsPayloadWritten}
use Rattle.hs_tool.specs.ScriptCommands.{IsUnkept, Runs, RunsBy}

module _ {S I O L : Type 0} where
  -- The open streams and the room to scan in are for its database.
  pub record IsReady (session : Session S I O L) (streams : Streams) : Type 0 where
    pub fits : AreStreamsOf session.db.now streams
    pub cache : IsCacheOf session.db.now session.cache.now

  -- It goes on over the same database, store, source and sink, with room to scan in.
  pub record Stays (before now : Session S I O L) : Type 0 where
    pub same_db : now.db.now ≡ before.db.now
    pub same_store : now.store.ghost_name ≡ before.store.ghost_name
    pub same_input : now.input.ghost_name ≡ before.input.ghost_name
    pub same_out : now.out.ghost_name ≡ before.out.ghost_name
    pub cache : IsCacheOf before.db.now now.cache.now

  -- It goes on so, and the open streams are for its database.
  pub record Keeps (before now : Session S I O L) (streams : Streams) : Type 0 where
    pub stays : Stays before now
    pub fits : AreStreamsOf before.db.now streams

module _ {S I O L : Type 0} (Tells : S → List ℕ → Told) (Left : I → Option (List ℕ))
    (Written : O → Option (List ℕ)) (before now : Session S I O L) where
  -- The command of a line of this number ran so.
  abbrev pub Answers : List ℕ → ℕ → Streams → Streams → Result (Unit {0}) ScriptStop → Type 0
  Answers line number streams streamed outcome =
      RunsBy
      (Runs before.db.now line number (kept streams (Tells before.store.now)) (kept streamed (Tells now.store.now))
      (Left before.input.now) (Left now.input.now) before.reader now.reader
      (Written before.out.now) (Written now.out.now) before.pending now.pending)
      (IsUnkept line (Left before.input.now) (Left now.input.now) before.reader now.reader
      (Written before.out.now) (Written now.out.now) before.pending now.pending) outcome

module _ {S I O L : Type 0} (Left : I → Option (List ℕ)) (Written : O → Option (List ℕ))
    (before now : Session S I O L) where
  -- The bytes of a write were taken for a name.
  abbrev pub TakesPayload : List ℕ → ℕ → Streams → Streams → Result Payload Break → Type 0
  TakesPayload name count streams streamed outcome =
      IsPayloadTaken before.db.now name count streams streamed
      (Left before.input.now) (Left now.input.now) before.reader now.reader
      (Written before.out.now) (Written now.out.now) before.pending now.pending outcome

  -- They were written to the stream of that name, or dropped.
  abbrev pub WritesPayload : List ℕ → ℕ → Stream → Stream → Result Payload Break → Type 0
  WritesPayload name count stream streamed outcome =
      IsPayloadWritten before.db.now name count stream streamed
      (Left before.input.now) (Left now.input.now) before.reader now.reader
      (Written before.out.now) (Written now.out.now) before.pending now.pending outcome

  -- They were scanned.
  abbrev pub ScansPayload : List ℕ → ℕ → Stream → Stream → Result Bool Break → Type 0
  ScansPayload name count stream streamed outcome =
      IsPayloadScanned before.db.now name count stream streamed
      (Left before.input.now) (Left now.input.now) before.reader now.reader
      (Written before.out.now) (Written now.out.now) before.pending now.pending outcome
