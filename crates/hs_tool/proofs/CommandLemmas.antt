-- One command of a script, as it is read and answered.
use Rattle.std.proofs.Common.{◌≡◌, ℕ, Bool, true, List, [], ◌∷◌, Option, Some, Ok, Err, sym, subst}
use Rattle.std.specs.List.{flat_map}
use Rattle.hs_outside.specs.declared.fault.Failed.{Failed}
use Rattle.hs_outside.specs.Store.{Told}
use Rattle.hs_text.specs.declared.reply_lines.Reply.{Reply}
use Rattle.hs_text.specs.ReplyLines.{reply_line}
use Rattle.hs_compile.specs.Databases.{Compiled}
use Rattle.hs_script.specs.Actions.{Action, name_of}
use Rattle.hs_script.specs.Runs.{named_line}
use Rattle.hs_script.specs.Machine.{Answer}
use Rattle.hs_tool.specs.declared.session.streams.Streams.{Streams}
use Rattle.hs_tool.specs.OpenStreams.{kept, Performs, PerformsStill}
use Rattle.hs_lines.specs.Passing.{Passes}
use Rattle.hs_tool.specs.ScriptCommands.{IsAnswered, IsTold}
use Rattle.hs_lines.proofs.PassLemmas.{passes-join, cut-longer}

-- what is done over any files is done over these, which stay
pub over : {db : Compiled} {old new : Streams} {told tells : List ℕ → Told} {actions : List Action} {answers : List Answer} → tells ≡ told → PerformsStill db old new actions answers → Performs db (kept old told) (kept new tells) actions answers
over {db} {old} {new} {told} {tells} {actions} {answers} same still =
    subst (λ t. Performs db (kept old told) (kept new t) actions answers) (sym same) (still told)

-- ---- an action and its lines

module _ {db : Compiled} {action : Action} {old new : Streams} {told tells : List ℕ → Told} (same : tells ≡ told) where
  pub answered : {x y z : Option (List ℕ)} {f g h : List ℕ} (reply : Reply) (lost : Bool) → IsTold db action (Ok reply) old new x y f g → Passes lost y z g h (reply_line (name_of action) reply) → IsAnswered db action lost (kept old told) (kept new tells) x z f h
  answered {x = x} {y = y} {z = z} {f = f} {g = g} {h = h} reply lost is line =
      record {
        answer = record { reports = is.pairs; reply = Some is.reply };
        performs = over same is.performs;
        sends =
            passes-join lost x y z f g h (flat_map (named_line (name_of action)) is.pairs) (reply_line (name_of action) is.reply) is.sends
            (subst (λ r. Passes lost y z g h (reply_line (name_of action) r)) is.is line);
      }

  pub answered-cut : {x y : Option (List ℕ)} {f g : List ℕ} (failed : Failed) → IsTold db action (Err failed) old new x y f g → IsAnswered db action true (kept old told) (kept new tells) x y f g
  answered-cut {x = x} {y = y} {f = f} {g = g} failed is =
      record {
        answer = record { reports = is.pairs; reply = Some is.reply };
        performs = over same is.performs;
        sends = cut-longer x y f (flat_map (named_line (name_of action)) is.pairs) (reply_line (name_of action) is.reply) is.sends;
      }
