-- Writing a text in pieces.
use Rattle.std.proofs.Common.{◌≡◌, ℕ, List, [], ◌++◌, length, take, drop, Option, None, Some, sym, subst, ◌∙◌, ap, refl, append_assoc, append-nil, ◌≤◌, ◌+◌, arith, length-drop}
use Rattle.std.proofs.lemmas.List.{take-append-drop, take_all}
use Rattle.hs_outside.specs.Sink.{Took, TookPrefix, IsSent, IsCutShort}
use Rattle.hs_outside.proofs.Counting.{Rose-after_same}

-- nothing was written
pub Took-nothing : (now : Option (List ℕ)) → Took now now []
Took-nothing None = tt
Took-nothing (Some now) = sym (append-nil now)

-- one piece after another
pub Took-append : (before now later : Option (List ℕ)) (front piece : List ℕ) → Took before now front → Took now later piece → Took before later (front ++ piece)
Took-append None None None front piece h k = tt
Took-append None None (Some later) front piece h k = k
Took-append None (Some now) later front piece h k = absurd h
Took-append (Some before) None None front piece h k = tt
Took-append (Some before) None (Some later) front piece h k = absurd k
Took-append (Some before) (Some now) None front piece h k = tt
Took-append (Some before) (Some now) (Some later) front piece h k = k ∙ ap (λ (x : List ℕ). x ++ piece) h ∙ append_assoc before front piece

-- a text of which some front was written, and what is still to come
pub record Sent (before now : Option (List ℕ)) (text rest : List ℕ) : Type 0 where
  pub front : List ℕ
  pub split : text ≡ front ++ rest
  pub taken : Took before now front

-- at first all is to come
pub sent_start : (now : Option (List ℕ)) (text : List ℕ) → Sent now now text text
sent_start now text = record { front = []; split = refl; taken = Took-nothing now }

-- after the next piece less is to come
pub sent_more : (before now later : Option (List ℕ)) (text piece rest : List ℕ) → Sent before now text (piece ++ rest) → Took now later piece → Sent before later text rest
sent_more before now later text piece rest sent taken = record {
  front = sent.front ++ piece;
  split = sent.split ∙ sym (append_assoc sent.front piece rest);
  taken = Took-append before now later sent.front piece sent.taken taken;
}

-- a write takes the first of what is to come
pub sent_part : (before now later : Option (List ℕ)) (text rest : List ℕ) (n : ℕ) → Sent before now text rest → Took now later (take n rest) → Sent before later text (drop n rest)
sent_part before now later text rest n sent taken =
    let parts : take n rest ++ drop n rest ≡ rest = take-append-drop n rest in
    sent_more before now later text (take n rest) (drop n rest) (subst (λ (r : List ℕ). Sent before now text r) (sym parts) sent) taken

-- at the end the whole text was written
pub sent_end : (before now : Option (List ℕ)) (text : List ℕ) → Sent before now text [] → Took before now text
sent_end before now text sent = subst (λ (t : List ℕ). Took before now t) (sym (sent.split ∙ append-nil sent.front)) sent.taken

-- what was written until now begins the text
pub sent_cut : (before now : Option (List ℕ)) (text rest : List ℕ) → Sent before now text rest → TookPrefix before now text
sent_cut before now text rest sent = record { front = sent.front; rest = rest; split = sent.split; taken = sent.taken }

-- nothing written begins every text
pub TookPrefix-nothing : (now : Option (List ℕ)) (text : List ℕ) → TookPrefix now now text
TookPrefix-nothing now text = record { front = []; rest = text; split = refl; taken = Took-nothing now }

-- what begins a text begins a longer one
pub TookPrefix-longer : (before now : Option (List ℕ)) (text more : List ℕ) → TookPrefix before now text → TookPrefix before now (text ++ more)
TookPrefix-longer before now text more cut = record {
  front = cut.front;
  rest = cut.rest ++ more;
  split = ap (λ (t : List ℕ). t ++ more) cut.split ∙ append_assoc cut.front cut.rest more;
  taken = cut.taken;
}

-- all of a text, and then the beginning of a piece
pub TookPrefix-after : (before now later : Option (List ℕ)) (text piece : List ℕ) → Took before now text → TookPrefix now later piece → TookPrefix before later (text ++ piece)
TookPrefix-after before now later text piece taken cut = record {
  front = text ++ cut.front;
  rest = cut.rest;
  split = ap (λ (t : List ℕ). text ++ t) cut.split ∙ sym (append_assoc text cut.front cut.rest);
  taken = Took-append before now later text cut.front taken cut.taken;
}

-- all of a text begins it
pub TookPrefix-all : (before now : Option (List ℕ)) (text : List ℕ) → Took before now text → TookPrefix before now text
TookPrefix-all before now text taken = record { front = text; rest = []; split = sym (append-nil text); taken = taken }

-- a write that failed: what was written until now, and the beginning of what was to come
pub sent_failed : (before now later : Option (List ℕ)) (text rest : List ℕ) → Sent before now text rest → TookPrefix now later rest → TookPrefix before later text
sent_failed before now later text rest sent cut =
    subst (λ (t : List ℕ). TookPrefix before later t) (sym sent.split) (TookPrefix-after before now later sent.front rest sent.taken cut)

-- a piece of which the write failed
pub sent_failed_piece : (before now later : Option (List ℕ)) (text piece rest : List ℕ) → Sent before now text (piece ++ rest) → TookPrefix now later piece → TookPrefix before later text
sent_failed_piece before now later text piece rest sent cut =
    sent_failed before now later text (piece ++ rest) sent (TookPrefix-longer now later piece rest cut)

-- the same where the rest is lent again, as `&rest[n..]`
pub sent_part_lent : (before now later : Option (List ℕ)) (text rest : List ℕ) (n room : ℕ) → Sent before now text rest → Took now later (take n rest) → length rest ≤ n + room → Sent before later text (take room (drop n rest))
sent_part_lent before now later text rest n room sent taken all =
    let whole : take room (drop n rest) ≡ drop n rest = take_all room (drop n rest) (omega (arith, length-drop n rest)) in
    subst (λ (r : List ℕ). Sent before later text r) (sym whole) (sent_part before now later text rest n sent taken)

-- one text sent after another
pub IsSent-then : {before between after : Option (List ℕ)} {faults later last : ℕ} {text more : List ℕ} → IsSent before between faults later text → IsSent between after later last more → IsSent before after faults last (text ++ more)
IsSent-then first second = record {
  taken = Took-append _ _ _ _ _ first.taken second.taken;
  counted = second.counted ∙ first.counted;
}

-- a text sent, and the next one cut short
pub IsCutShort-after : {before between after : Option (List ℕ)} {faults later last : ℕ} {text more : List ℕ} → IsSent before between faults later text → IsCutShort between after later last more → IsCutShort before after faults last (text ++ more)
IsCutShort-after first second = record {
  cut = TookPrefix-after _ _ _ _ _ first.taken second.cut;
  failed = Rose-after_same _ _ _ first.counted second.failed;
}

-- a text cut short, of which more was to come
pub IsCutShort-longer : {before after : Option (List ℕ)} {faults later : ℕ} {text : List ℕ} (more : List ℕ) → IsCutShort before after faults later text → IsCutShort before after faults later (text ++ more)
IsCutShort-longer more cut = record {
  cut = TookPrefix-longer _ _ _ more cut.cut;
  failed = cut.failed;
}
