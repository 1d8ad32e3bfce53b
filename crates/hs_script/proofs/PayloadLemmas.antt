-- What a write takes of the bytes behind its line.
use Rattle.std.proofs.Common.{◌≡◌, ℕ, ◌≤◌, List, [], ◌∷◌, ◌++◌, length, take, drop, ap, ◌∙◌, lt-ltb, le-ltb, ne_eqb, arith, if◌then◌else◌}
use Rattle.std.proofs.Math.Seq.{take-append_seam, drop-append_seam, take-length, drop-length}
use Rattle.std.proofs.lemmas.List.{length-append}
use Rattle.hs_base.specs.Assertions.{line_feed}
use Rattle.hs_text.specs.declared.reply_lines.ScriptFault.TheVariants as fault
use Rattle.hs_script.specs.Actions.{Write, Cut}
use Rattle.hs_script.specs.Scripts.{Goes, Ends, behind_payload, written_by}
use Rattle.hs_script.specs.Laws.{TakesPayload}

-- with all its bytes there a write is judged by what stands behind them
all_there : (number : ℕ) (name payload behind rest : List ℕ) → length payload ≤ length rest → take (length payload) rest ≡ payload → drop (length payload) rest ≡ behind → written_by number name (length payload) rest ≡ behind_payload number name payload behind
all_there number name payload behind rest long front back =
    ap (λ t. if t then Ends (Cut name (length payload) rest ∷ []) (fault.Truncated number) else behind_payload number name (take (length payload) rest) (drop (length payload) rest)) (le-ltb (length rest) (length payload) long)
    ∙ (ap (λ p. behind_payload number name p (drop (length payload) rest)) front ∙ ap (behind_payload number name payload) back)

pub takes_payload : (number : ℕ) (name payload behind : List ℕ) → TakesPayload number name payload behind
takes_payload number name payload behind =
    record {
      with_feed = all_there number name payload (line_feed ∷ behind) (payload ++ line_feed ∷ behind) (omega (arith, length-append payload (line_feed ∷ behind))) (take-append_seam payload (line_feed ∷ behind)) (drop-append_seam payload (line_feed ∷ behind));
      at_end = all_there number name payload [] payload (omega arith) (take-length payload) (drop-length payload);
      with_other = λ b other.
          all_there number name payload (b ∷ behind) (payload ++ b ∷ behind) (omega (arith, length-append payload (b ∷ behind))) (take-append_seam payload (b ∷ behind)) (drop-append_seam payload (b ∷ behind))
          ∙ ap (λ t. if t then Goes (Write name payload) behind else Ends (Write name payload ∷ []) (fault.Script number)) (ne_eqb b line_feed other);
      cut_short = λ count short.
          ap (λ t. if t then Ends (Cut name count payload ∷ []) (fault.Truncated number) else behind_payload number name (take count payload) (drop count payload)) (lt-ltb (length payload) count short);
    }
