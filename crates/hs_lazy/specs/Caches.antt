-- What a cache has of each number, and what it tells of a chunk.
use Rattle.std.specs.Prelude.{◌≡◌, ℕ, Bool, true, false, List, [], Option, Some, None, length, slice_get}
use Rattle.std.specs.Prelude.{slice_range, nat_lt, ◌&&◌}
use Rattle.hs_base.specs.declared.context.Prev.{Prev}
use Rattle.hs_base.specs.Bits.{AreZero}
use Rattle.hs_engine.specs.Engines.{Meaning}
use Rattle.hs_lazy.specs.declared.cache.Cache.{Cache}
use Rattle.hs_lazy.specs.declared.cache.Place.{Place}
use Rattle.hs_lazy.specs.declared.parts.Member.{Member}
use Rattle.hs_lazy.specs.declared.parts.Run.{Run}
use Rattle.hs_lazy.specs.declared.parts.State.{State}
use Rattle.hs_lazy.specs.declared.dfa.LazyDfa.{LazyDfa}
use Rattle.hs_lazy.specs.Walks.{IsChunkTaken}
use Rattle.hs_lazy.specs.Ends.{member_left_before, member_left_behind}
use Rattle.hs_lazy.specs.Parts.{part}
use Rattle.hs_lazy.specs.Runs.{RunsThrough}
use Rattle.hs_lazy.specs.Tables.{member_of, place_for}

-- What is told of a number: the engine that runs for it, its region behind the chunk, and before and behind which of
-- the chunk's bytes its expression is left.
pub record Told : Type 0 where
  pub engine : ℕ
  pub part : List ℕ
  pub before : ℕ → Bool
  pub behind : ℕ → Bool

-- the run of the automaton of that place
abbrev pub run_at : List Run → Option Place → Option Run
run_at runs None = None
run_at runs (Some p) = slice_get runs p.dfa

-- the region that is loaded for a number, before the chunk; of a number without an engine nothing
abbrev pub loaded_by : Option Member → Option Run → List ℕ
loaded_by None run = []
loaded_by (Some member) None = []
loaded_by (Some member) (Some run) = slice_range run.image member.start member.end

unfoldable pub loaded : Cache → ℕ → List ℕ
loaded cache k = loaded_by (member_of cache.dfas k) (run_at cache.runs.items (place_for cache.dfas k))

abbrev pub told_if : Bool → Told → Option Told
told_if true t = Some t
told_if false t = None

-- the ends before a chunk's bytes and behind them, of the member of that number
abbrev pub befores_of : Run → (member : ℕ) → ℕ → Bool
befores_of run member i = member_left_before run.ends.rows member i

abbrev pub behinds_of : Run → (member : ℕ) → ℕ → Bool
behinds_of run member i = member_left_behind run.ends.rows member i

abbrev pub told_of : Option State → Run → (number : ℕ) → Member → Option Told
told_of None run number member = None
told_of (Some state) run number member =
    told_if run.is_done
    (record {
      engine = member.engine;
      part = part state.image member;
      before = befores_of run number;
      behind = behinds_of run number;
    })

abbrev pub told_by : Option Member → Option LazyDfa → Option Run → (number : ℕ) → Option Told
told_by None dfa run number = None
told_by (Some member) None run number = None
told_by (Some member) (Some dfa) None number = None
told_by (Some member) (Some dfa) (Some run) number =
    told_of (slice_get dfa.states.items run.state) run number member

-- the automaton took the chunk
abbrev pub done_by : Option LazyDfa → Option Run → Bool
done_by None run = false
done_by (Some dfa) None = false
done_by (Some dfa) (Some run) = run.is_done && nat_lt run.state (length dfa.states.items)

abbrev pub is_done_at : List LazyDfa → List Run → Place → Bool
is_done_at list runs p = done_by (slice_get list p.dfa) (slice_get runs p.dfa)

-- what is told by a place, of the number that has it
abbrev pub told_at : Option Member → (list : List LazyDfa) (runs : List Run) → Option Place → Option Told
told_at member list runs None = None
told_at member list runs (Some p) = told_by member (slice_get list p.dfa) (slice_get runs p.dfa) p.member

-- what is told of a number, if its automaton took the chunk
unfoldable pub told : Cache → ℕ → Option Told
told cache k = told_at (member_of cache.dfas k) cache.dfas.list.items cache.runs.items (place_for cache.dfas k)

-- What is told is what the engine does, from that region on.
pub record TellsRun (m : Meaning) (old : List ℕ) (prev : Prev) (bytes : List ℕ) (t : Told) : Type 0 where
  pub sized : length t.part ≡ m.width
  pub well : (at : ℕ) → m.well t.part at
  pub runs : RunsThrough m old t.part prev bytes t.before t.behind

-- Nothing is live behind the chunk, and the expression is left nowhere in it.
pub record IsSilent (t : Told) : Type 0 where
  pub zero : AreZero t.part
  pub before : (i : ℕ) → t.before i ≡ false
  pub behind : (i : ℕ) → t.behind i ≡ false

-- the images before the chunk stay
abbrev pub AreSameImages : (old new : List Run) → Type 0
AreSameImages old new =
    (i : ℕ) (run : Run) → slice_get new i ≡ Some run →
    (before : Run) × (slice_get old i ≡ Some before) × (run.image ≡ before.image)

-- each automaton that is told to have taken the chunk did
abbrev pub AreTaken : List LazyDfa → List Run → Prev → (bytes : List ℕ) → Type 0
AreTaken list runs prev bytes =
    (i : ℕ) (dfa : LazyDfa) (run : Run) → slice_get list i ≡ Some dfa → slice_get runs i ≡ Some run →
    run.is_done ≡ true → IsChunkTaken dfa.states.items dfa.rows.items dfa.ends.items run prev bytes
