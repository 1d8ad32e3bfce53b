-- How streams are added: an empty one, or one that was saved.
use Rattle.std.specs.Prelude.{◌≡◌, ℕ, ◌<◌, ◌≤◌, List, None, Some}
use Rattle.hs_text.specs.declared.commands.Verb.TheVariants as verb
use Rattle.hs_text.specs.declared.reply_lines.Word.{Word}
use Rattle.hs_text.specs.declared.reply_lines.Word.TheVariants as word
use Rattle.hs_text.specs.declared.reply_lines.Reply.{Reply}
use Rattle.hs_text.specs.declared.reply_lines.Reply.TheVariants.{Done, No}
use Rattle.hs_compile.specs.Databases.{Compiled}
use Rattle.hs_stream.specs.declared.fault.ExpandFault.{ExpandFault}
use Rattle.hs_stream.specs.declared.stream.Stream.{Stream}
use Rattle.hs_stream.specs.Saving.{IsExpanded, IsExpandFaultOf}
use Rattle.hs_stream.specs.Streams.{IsStreamOf, IsFresh}
use Rattle.hs_script.specs.Machine.{most_streams}
use Rattle.hs_tool.specs.declared.session.streams.Streams.{Streams}
use Rattle.hs_tool.specs.ExpandWords.{word_of_fault}
use Rattle.hs_tool.specs.OpenStreams.{PutsStream, count_of, stream_at}

-- This name has a stream now of which no byte has come.
pub record Adds (db : Compiled) (old new : Streams) (name : List ℕ) : Type 0 where
  pub stream : Stream
  pub fits : IsStreamOf db stream
  pub fresh : IsFresh db stream
  pub puts : PutsStream old new name (Some stream)

-- This name has the stream now that was saved as these bytes.
pub record AddsExpanded (db : Compiled) (old new : Streams) (name bytes : List ℕ) : Type 0 where
  pub stream : Stream
  pub expanded : IsExpanded db bytes stream
  pub puts : PutsStream old new name (Some stream)

-- the name isn't open, and one stream more may be
pub record IsFree (streams : Streams) (name : List ℕ) : Type 0 where
  pub unknown : stream_at streams name ≡ None
  pub room : count_of streams < most_streams

-- this word says why it isn't so
pub data Hinders (streams : Streams) (name : List ℕ) : Word → Type 0 where
  is_open : (stream : Stream) → stream_at streams name ≡ Some stream → Hinders streams name word.Exists
  is_full :
      stream_at streams name ≡ None →
      most_streams ≤ count_of streams →
      Hinders streams name word.Full

-- What came of an expansion of these bytes, under a name that wasn't open.
pub data Expands (db : Compiled) (old new : Streams) (name bytes : List ℕ) : Reply → Type 0 where
  added :
      AddsExpanded db old new name bytes →
      Expands db old new name bytes (Done verb.Expand None)
  unexpanded : (fault : ExpandFault) →
      IsExpandFaultOf db bytes fault →
      PutsStream old new name None →
      Expands db old new name bytes (No verb.Expand (word_of_fault fault))
