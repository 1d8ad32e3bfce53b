-- The bytes of a write, as they come.
use Rattle.std.proofs.Common.{◌≡◌, ◌≢◌, ℕ, zero, suc, ◌+◌, ◌-◌, ◌<◌, ◌≤◌, Bool, true, false, List, [], ◌∷◌, ◌++◌, length, take, drop, Option, Some, Ok, Err, refl, sym, ap, ◌∙◌, subst, arith, append-nil, length-append}
use Rattle.hs_compile.specs.Databases.{Compiled}
use Rattle.hs_stream.specs.declared.stream.Stream.{Stream}
use Rattle.hs_reader.specs.declared.fault.Break.{Break}
use Rattle.hs_reader.specs.declared.fault.Break.TheVariants as stop
use Rattle.hs_reader.specs.Reading.{Ahead, Consumes}
use Rattle.hs_outside.specs.Counts.{Rose}
use Rattle.hs_reader.specs.Breaks.{NoFault, BreakCounts, StopsAt, ReadCounts, is_write}
use Rattle.hs_lines.specs.Passing.{IsPassed, Passes}
use Rattle.hs_tool.specs.Payloads.{PayloadEnds, Comes}
use Rattle.hs_tool.specs.Scanning.{Scans}
use Rattle.hs_reader.proofs.ReadLemmas.{consumes-nothing, consumes-join, consumes-front}

-- ---- some of so many bytes

-- these came, and so many are left to come
pub record HasCome (before now : Option (List ℕ)) (old new : Ahead) (count left : ℕ) (came : List ℕ) : Type 0 where
  pub consumes : Consumes before now old new came
  pub sum : length came + left ≡ count

pub comes-start : (left : Option (List ℕ)) (ahead : Ahead) (count : ℕ) → HasCome left left ahead ahead count count []
comes-start left ahead count = record { consumes = consumes-nothing left ahead; sum = omega arith }

front_rest : (n : ℕ) (xs : List ℕ) → xs ≡ take n xs ++ drop (length (take n xs)) xs
front_rest zero xs = refl
front_rest (suc n) [] = refl
front_rest (suc n) (x ∷ xs) = ap (λ l. x ∷ l) (front_rest n xs)

pub some_taken : (n : ℕ) (xs : List ℕ) → 0 < n → xs ≢ [] → 0 < length (take n xs)
some_taken zero xs more some = absurd (omega (arith, more))
some_taken (suc n) [] more some = absurd (some refl)
some_taken (suc n) (x ∷ xs) more some = omega arith

pub few_taken : (n : ℕ) (xs : List ℕ) → length (take n xs) ≤ n
few_taken zero xs = omega arith
few_taken (suc n) [] = omega arith
few_taken (suc n) (x ∷ xs) = omega (arith, few_taken n xs)

pub taken_within : (n : ℕ) (xs : List ℕ) → length (take n xs) ≤ length xs
taken_within zero xs = omega arith
taken_within (suc n) [] = omega arith
taken_within (suc n) (x ∷ xs) = omega (arith, taken_within n xs)

-- a piece more
pub comes-piece : {p q r : Option (List ℕ)} {a b c d : Ahead} {count left : ℕ} {came : List ℕ} (bytes : List ℕ) → HasCome p q a b count left came → Consumes q r b c [] → c.ended ≡ false → bytes ≡ take left c.bytes → d.bytes ≡ drop (length bytes) c.bytes → d.at ≡ c.at + length bytes → d.ended ≡ c.ended → HasCome p r a d count (left - length bytes) (came ++ bytes)
comes-piece {r = r} {c = c} {d = d} {left = left} {came = came} bytes so_far fills goes_on is rest at same =
    record {
      consumes = consumes-join so_far.consumes (consumes-join fills (consumes-front r c d bytes split at same goes_on));
      sum = omega (arith, so_far.sum, length-append came bytes, few_taken left c.bytes, ap length is);
    }
  where
    split : c.bytes ≡ bytes ++ d.bytes
    split =
        front_rest left c.bytes
        ∙ (ap (λ l. l ++ drop (length l) c.bytes) (sym is) ∙ ap (λ l. bytes ++ l) (sym rest))

-- all came
pub comes-all : {p q : Option (List ℕ)} {a b : Ahead} {count left : ℕ} {came : List ℕ} → HasCome p q a b count left came → left ≤ 0 → Comes p q a b count came (Ok true)
comes-all so_far none =
    record { consumes = so_far.consumes; within = omega (arith, so_far.sum); ends = omega (arith, so_far.sum, none) }

-- the input ended before
pub comes-short : {p q r : Option (List ℕ)} {a b c : Ahead} {count left : ℕ} {came : List ℕ} → HasCome p q a b count left came → Consumes q r b c [] → 0 < left → c.ended ≡ true → Comes p r a c count came (Ok false)
comes-short {p} {q} {r} {a} {b} {c} {came = came} so_far fills more ended =
    record {
      consumes = subst (λ l. Consumes p r a c l) (append-nil came) (consumes-join so_far.consumes fills);
      within = omega (arith, so_far.sum);
      ends = (omega (arith, so_far.sum, more), ended);
    }

ends-broken : (came count left : ℕ) (ahead : Ahead) (stop : Break) → came + left ≡ count → 0 < left → StopsAt ahead stop → PayloadEnds came count ahead (Err stop)
ends-broken came count left ahead stop.Read sum more at = (omega (arith, sum, more), at)
ends-broken came count left ahead stop.Limit sum more at = (omega (arith, sum, more), at)
ends-broken came count left ahead stop.Write sum more at = at

-- reading was broken off
pub comes-broken : {p q r : Option (List ℕ)} {a b c : Ahead} {count left : ℕ} {came : List ℕ} (stop : Break) → HasCome p q a b count left came → Consumes q r b c [] → 0 < left → StopsAt c stop → Comes p r a c count came (Err stop)
comes-broken {p} {q} {r} {a} {b} {c} {count} {left} {came} stop so_far fills more at =
    record {
      consumes = subst (λ l. Consumes p r a c l) (append-nil came) (consumes-join so_far.consumes fills);
      within = omega (arith, so_far.sum);
      ends = ends-broken (length came) count left c stop so_far.sum more at;
    }

-- some bytes of which it isn't said which
pub record SomeHaveCome (before now : Option (List ℕ)) (old new : Ahead) (count left : ℕ) : Type 0 where
  pub came : List ℕ
  pub come : HasCome before now old new count left came

-- ---- bytes that are scanned

-- so many bytes were scanned so far
pub record IsScannedSoFar (db : Compiled) (name : List ℕ) (count left : ℕ) (old new : Stream) (before now : Option (List ℕ)) (ahead aheads : Ahead) (taken takes : Option (List ℕ)) (waited waits : List ℕ) : Type 0 where
  pub came : List ℕ
  pub come : HasCome before now ahead aheads count left came
  pub scanned : Scans db (Some name) old new came (λ text. IsPassed taken takes waited waits text)

-- the sink failed when the last of them were scanned
pub comes-lost : {p q : Option (List ℕ)} {a b : Ahead} {count left : ℕ} {came : List ℕ} → HasCome p q a b count left came → b.ended ≡ false → Comes p q a b count came (Err stop.Write)
comes-lost so_far goes_on = record { consumes = so_far.consumes; within = omega (arith, so_far.sum); ends = goes_on }

-- reading isn't broken off by the sink
pub unlost : {x y : Option (List ℕ)} {a b : List ℕ} (stop : Break) (read reads : ℕ) → ReadCounts {A = Bool} read reads (Err stop) →
    (text : List ℕ) → IsPassed x y a b text → Passes (is_write stop) x y a b text
unlost stop.Read read reads counts text passes = passes
unlost stop.Limit read reads counts text passes = passes
unlost stop.Write read reads counts text passes = absurd counts

-- reading was broken off, and nothing failed before
pub counts-broken : {read reads sunk sinks : ℕ} (readers : ℕ) (stop : Break) → NoFault read reads sunk sinks → ReadCounts {A = Bool} reads readers (Err stop) → BreakCounts read readers sunk sinks stop
counts-broken readers stop.Read none rose = (subst (λ n. Rose n readers) none.source rose, none.sink)
counts-broken readers stop.Limit none same = record { source = same ∙ none.source; sink = none.sink }
counts-broken readers stop.Write none never = absurd never

-- the sink failed, and nothing failed before
pub counts-lost : {read reads readers sunk sinks sinkers : ℕ} → NoFault read reads sunk sinks → readers ≡ reads → Rose sinks sinkers → BreakCounts read readers sunk sinkers stop.Write
counts-lost {sinkers = sinkers} none same rose = (same ∙ none.source, subst (λ n. Rose n sinkers) none.sink rose)
