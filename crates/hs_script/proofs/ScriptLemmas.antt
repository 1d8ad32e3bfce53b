-- Bytes are a script in exactly one way.
use Rattle.std.proofs.Common.{◌≡◌, ℕ, zero, suc, ◌≤◌, Bool, true, false, nat_lt, ◌==◌, List, [], ◌∷◌, length, take, drop, Option, None, Some, refl, sym, ap, ◌∙◌, subst, arith, if◌then◌else◌}
use Rattle.std.specs.Option.{unwrap_or}
use Rattle.std.proofs.lemmas.List.{length-drop}
use Rattle.hs_base.specs.Assertions.{line_feed}
use Rattle.hs_text.specs.declared.reply_lines.ScriptFault.{ScriptFault}
use Rattle.hs_text.specs.declared.reply_lines.ScriptFault.TheVariants as fault
use Rattle.hs_text.specs.Commands.{Order, IsCommand}
use Rattle.hs_text.specs.Commands as order
use Rattle.hs_text.proofs.CommandLemmas.{command_once}
use Rattle.hs_text.proofs.DecisionLemmas.{IsToldCommand, some_command, none_command, command_told}
use Rattle.hs_script.specs.Actions.{Action, Open, Write, Cut, Reset, Close, Save, Expand, IsAlone, open_alone, reset_alone, close_alone, save_alone, expand_alone}
use Rattle.hs_script.specs.Scripts.{BeginsLine, First, Goes, Ends, behind_payload, written_by, IsFirst, no_command, alone, write, IsScript, nothing, goes, ends}
use Rattle.hs_script.specs.Laws.{IsSameScript, IsSomeScript}
use Rattle.hs_script.proofs.LineLemmas.{line_once, no_line, has_line}

same_command : {l m r s bytes : List ℕ} {x y : Order} → BeginsLine l r bytes → BeginsLine m s bytes → IsCommand l x → IsCommand m y → x ≡ y
same_command {l} {m} {x = x} {y = y} p q c d = command_once l x y c (subst (λ t. IsCommand t y) (sym (line_once p q).left) d)

-- a command that writes nothing is one action, and no write
action_of : Order → Option Action
action_of (order.Open name) = Some (Open name)
action_of (order.Write name count) = None
action_of (order.Reset name) = Some (Reset name)
action_of (order.Close name) = Some (Close name)
action_of (order.Save name file) = Some (Save name file)
action_of (order.Expand name file) = Some (Expand name file)

alone_is : {x : Order} {a : Action} → IsAlone x a → action_of x ≡ Some a
unfolding action_of
alone_is open_alone = refl
alone_is reset_alone = refl
alone_is close_alone = refl
alone_is save_alone = refl
alone_is expand_alone = refl

alone_once : {x y : Order} {a b : Action} → IsAlone x a → IsAlone y b → x ≡ y → a ≡ b
alone_once {a = a} p q e = ap (λ o. unwrap_or o a) (sym (alone_is p) ∙ (ap action_of e ∙ alone_is q))

alone_no_write : {x : Order} {a : Action} {name : List ℕ} {count : ℕ} → IsAlone x a → x ≡ order.Write name count → ⊥
alone_no_write open_alone e = cc
alone_no_write reset_alone e = cc
alone_no_write close_alone e = cc
alone_no_write save_alone e = cc
alone_no_write expand_alone e = cc

same_goes : (a b : Action) (r s : List ℕ) → a ≡ b → r ≡ s → Goes a r ≡ Goes b s
same_goes a b r s e f = ap (λ x. Goes x r) e ∙ ap (Goes b) f

same_write : (number : ℕ) (n m : List ℕ) (c d : ℕ) (r s : List ℕ) → order.Write n c ≡ order.Write m d → r ≡ s → written_by number n c r ≡ written_by number m d s
same_write number n m c d r s e f =
    let names : n ≡ m = cc (e) in
    let counts : c ≡ d = cc (e) in
    ap (λ x. written_by number x c r) names ∙ (ap (λ x. written_by number m x r) counts ∙ ap (written_by number m d) f)

-- the first command of bytes is one
pub first_once : {number : ℕ} {bytes : List ℕ} {x y : First} → IsFirst number bytes x → IsFirst number bytes y → x ≡ y
first_once (no_command l n e) (no_command k o f) = e ∙ sym f
first_once (no_command l n e) (alone {order = x} k c a f) = absurd (n x (subst (λ t. IsCommand t x) (sym (line_once l k).left) c))
first_once (no_command l n e) (write {name = name} {count = count} k c f) =
    absurd (n (order.Write name count) (subst (λ t. IsCommand t (order.Write name count)) (sym (line_once l k).left) c))
first_once (alone {order = x} k c a f) (no_command l n e) = absurd (n x (subst (λ t. IsCommand t x) (line_once k l).left c))
first_once (alone {rest = r} {action = p} k c a e) (alone {rest = s} {action = q} l d b f) =
    e ∙ (same_goes p q r s (alone_once a b (same_command k l c d)) (line_once k l).right ∙ sym f)
first_once (alone k c a e) (write l d f) = absurd (alone_no_write a (same_command k l c d))
first_once (write {name = name} {count = count} k c f) (no_command l n e) =
    absurd (n (order.Write name count) (subst (λ t. IsCommand t (order.Write name count)) (line_once k l).left c))
first_once (write l d f) (alone k c a e) = absurd (alone_no_write a (same_command k l c d))
first_once {number} (write {rest = r} {name = n} {count = i} k c e) (write {rest = s} {name = m} {count = j} l d f) =
    e ∙ (same_write number n m i j r s (same_command k l c d) (line_once k l).right ∙ sym f)

none_first : {number : ℕ} {x : First} → IsFirst number [] x → ⊥
none_first (no_command l n e) = no_line l
none_first (alone l c a e) = no_line l
none_first (write l c e) = no_line l

pub script_once : {number : ℕ} {bytes : List ℕ} {xs ys : List Action} {e f : Option ScriptFault} → IsScript number bytes xs e → IsScript number bytes ys f → IsSameScript xs ys e f
script_once nothing nothing = record { same_actions = refl; same_ending = refl }
script_once nothing (goes x s) = absurd (none_first x)
script_once nothing (ends x) = absurd (none_first x)
script_once (goes x s) nothing = absurd (none_first x)
script_once {number} {f = f} (goes {behind = r} {action = a} {actions = xs} x p) (goes {behind = s} {action = b} {actions = ys} y q) =
    let both = first_once x y in
    let actions : a ≡ b = cc (both) in
    let rests : r ≡ s = cc (both) in
    let same = script_once p (subst (λ t. IsScript (suc number) t ys f) (sym rests) q) in
    record { same_actions = ap (λ z. z ∷ xs) actions ∙ ap (λ l. b ∷ l) same.same_actions; same_ending = same.same_ending }
script_once (goes x p) (ends y) = let both = first_once x y in cc (both)
script_once (ends x) nothing = absurd (none_first x)
script_once (ends x) (goes y q) = let both = first_once x y in cc (both)
script_once (ends {actions = xs} {fault = i} x) (ends {actions = ys} {fault = j} y) =
    let both = first_once x y in
    let actions : xs ≡ ys = cc (both) in
    let faults : i ≡ j = cc (both) in
    record { same_actions = actions; same_ending = ap Some faults }

-- what stands behind a write is no longer than what stands behind its line
behind_shorter : (number : ℕ) (name payload bytes : List ℕ) (action : Action) (behind : List ℕ) → behind_payload number name payload bytes ≡ Goes action behind → length behind ≤ length bytes
behind_shorter number name payload [] action behind e = let same : [] ≡ behind = cc in omega (arith, ap length same)
behind_shorter number name payload (b ∷ bytes) action behind e = by_test (b == line_feed) e
  where
    by_test : (t : Bool) → (if t then Goes (Write name payload) bytes else Ends (Write name payload ∷ []) (fault.Script number)) ≡ Goes action behind → length behind ≤ length (b ∷ bytes)
    by_test true e = let same : bytes ≡ behind = cc in omega (arith, ap length same)
    by_test false e = cc

write_shorter : (number : ℕ) (name : List ℕ) (count : ℕ) (rest : List ℕ) (action : Action) (behind : List ℕ) → written_by number name count rest ≡ Goes action behind → length behind ≤ length rest
write_shorter number name count rest action behind e = by_test (nat_lt (length rest) count) e
  where
    by_test : (t : Bool) → (if t then Ends (Cut name count rest ∷ []) (fault.Truncated number) else behind_payload number name (take count rest) (drop count rest)) ≡ Goes action behind → length behind ≤ length rest
    by_test true e = cc
    by_test false e =
        let short = behind_shorter number name (take count rest) (drop count rest) action behind e in
        omega (arith, short, length-drop count rest)

-- all bytes of this length at most are a script
abbrev pub AreScripts : ℕ → Type 0
AreScripts most = (number : ℕ) (bytes : List ℕ) → length bytes ≤ most → IsSomeScript number bytes

from_first : (most number : ℕ) (bytes : List ℕ) → AreScripts most → (first : First) → IsFirst number bytes first → ((action : Action) (behind : List ℕ) → first ≡ Goes action behind → length behind ≤ most) → IsSomeScript number bytes
from_first most number bytes others (Goes action behind) is short =
    let rest = others (suc number) behind (short action behind refl) in
    record { actions = action ∷ rest.actions; ending = rest.ending; script = goes is rest.script }
from_first most number bytes others (Ends actions fault) is short = record { actions = actions; ending = Some fault; script = ends is }

goes_shorter : (most : ℕ) (rest : List ℕ) (a : Action) → length rest ≤ most → (action : Action) (behind : List ℕ) → Goes a rest ≡ Goes action behind → length behind ≤ most
goes_shorter most rest a short action behind e = let same : rest ≡ behind = cc (e) in omega (arith, short, ap length same)

from_order : (most number : ℕ) (bytes line rest : List ℕ) → AreScripts most → BeginsLine line rest bytes → length rest ≤ most → (x : Order) → IsCommand line x → IsSomeScript number bytes
from_order most number bytes line rest others begins short (order.Open name) is =
    from_first most number bytes others (Goes (Open name) rest) (alone begins is open_alone refl) (goes_shorter most rest (Open name) short)
from_order most number bytes line rest others begins short (order.Write name count) is =
    from_first most number bytes others (written_by number name count rest) (write begins is refl) (λ action behind e. let l = write_shorter number name count rest action behind e in omega (arith, l, short))
from_order most number bytes line rest others begins short (order.Reset name) is =
    from_first most number bytes others (Goes (Reset name) rest) (alone begins is reset_alone refl) (goes_shorter most rest (Reset name) short)
from_order most number bytes line rest others begins short (order.Close name) is =
    from_first most number bytes others (Goes (Close name) rest) (alone begins is close_alone refl) (goes_shorter most rest (Close name) short)
from_order most number bytes line rest others begins short (order.Save name file) is =
    from_first most number bytes others (Goes (Save name file) rest) (alone begins is save_alone refl) (goes_shorter most rest (Save name file) short)
from_order most number bytes line rest others begins short (order.Expand name file) is =
    from_first most number bytes others (Goes (Expand name file) rest) (alone begins is expand_alone refl) (goes_shorter most rest (Expand name file) short)

from_line : (most number : ℕ) (bytes line rest : List ℕ) → AreScripts most → BeginsLine line rest bytes → length rest ≤ most → IsToldCommand line → IsSomeScript number bytes
from_line most number bytes line rest others begins short (some_command x is) = from_order most number bytes line rest others begins short x is
from_line most number bytes line rest others begins short (none_command none) =
    record { actions = []; ending = Some (fault.Script number); script = ends (no_command begins none refl) }

pub are_scripts : (most : ℕ) → AreScripts most
are_scripts most number [] short = record { actions = []; ending = None; script = nothing }
are_scripts zero number (b ∷ bytes) short = absurd (omega arith)
are_scripts (suc most) number (b ∷ bytes) short =
    let has = has_line b bytes in
    let shorter = has.shorter in
    from_line most number (b ∷ bytes) has.line has.rest (are_scripts most) has.begins (omega arith) (command_told has.line)
