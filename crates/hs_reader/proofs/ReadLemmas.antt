-- What is taken of what a reader has ahead.
use Rattle.std.proofs.Common.{◌≡◌, ◌≢◌, ℕ, suc, ◌+◌, zero, ◌-◌, ◌≤◌, min, Bool, true, false, MatchBool, nat_eq, slice_index_or, List, [], ◌∷◌, ◌++◌, length, take, drop, slice_range, Option, None, Some, refl, sym, ap, ◌∙◌, subst, arith, append_assoc, append-nil, length-append}
use Rattle.std.proofs.lemmas.Bool.{false≢true, eq-eqb, eqb-true}
use Rattle.std.proofs.lemmas.List.{length-take, length-take-le, take_min, drop_all, drop-take, drop-drop}
use Rattle.std.proofs.Math.Seq.{take-append-add}
use Rattle.hs_base.specs.Lists.{Each}
use Rattle.hs_base.specs.Assertions.{line_feed}
use Rattle.hs_outside.specs.Source.{Gave}
use Rattle.hs_outside.proofs.Taking.{Gave-nothing, Gave-append}
use Rattle.hs_base.proofs.ListLemmas.{each-append}
use Rattle.hs_script.specs.Scripts.{fed, unfed}
use Rattle.hs_reader.specs.Reading.{Ahead, all_ahead, IsSettled, MayCome, IsOver, Consumes, TakesFeed, line_end, another, kept_len, kept_of, TakesPart, IsLineRead, IsLineless, IsLineBegun, ReadsLine, IsFeedAt}
use Rattle.hs_reader.specs.Reading as reading

-- nothing
pub consumes-nothing : (left : Option (List ℕ)) (ahead : Ahead) → Consumes left left ahead ahead []
consumes-nothing left ahead = record {
  given = Gave-nothing (all_ahead left ahead);
  here = omega arith;
  settled = λ s. s;
  over = λ e. record { nothing = refl; still = e };
}

-- two in a row
pub consumes-join : {p q r : Option (List ℕ)} {a b c : Ahead} {x y : List ℕ} → Consumes p q a b x → Consumes q r b c y → Consumes p r a c (x ++ y)
consumes-join {p} {q} {r} {a} {b} {c} {x} {y} f g = record {
  given = Gave-append (all_ahead p a) (all_ahead q b) (all_ahead r c) x y f.given g.given;
  here = omega (arith, f.here, g.here, length-append x y);
  settled = λ s. g.settled (f.settled s);
  over = λ e.
      let one = f.over e in
      let two = g.over one.still in
      record { nothing = ap (λ w. w ++ y) one.nothing ∙ two.nothing; still = two.still };
}

behind_nothing : (x y : List ℕ) → x ++ y ≡ [] → y ≡ []
behind_nothing [] y e = e
behind_nothing (x ∷ xs) y e = cc

front_nothing : (x y : List ℕ) → x ++ y ≡ [] → x ≡ []
front_nothing [] y e = refl
front_nothing (x ∷ xs) y e = cc

-- what waited is taken, in whole or in part
gave_front : (left : Option (List ℕ)) (old new : Ahead) (x : List ℕ) → old.bytes ≡ x ++ new.bytes → Gave (all_ahead left old) (all_ahead left new) x
gave_front None old new x e = tt
gave_front (Some left) old new x e = ap (λ b. b ++ left) e ∙ append_assoc x new.bytes left

settled_front : (left : Option (List ℕ)) (old new : Ahead) (x : List ℕ) → old.bytes ≡ x ++ new.bytes → new.ended ≡ old.ended → IsSettled left old → IsSettled left new
settled_front None old new x e same s ended = tt
settled_front (Some left) old new x e same s ended =
    behind_nothing x (new.bytes ++ left) (sym (ap (λ b. b ++ left) e ∙ append_assoc x new.bytes left) ∙ s (sym same ∙ ended))

pub consumes-front : (left : Option (List ℕ)) (old new : Ahead) (x : List ℕ) → old.bytes ≡ x ++ new.bytes → new.at ≡ old.at + length x → new.ended ≡ old.ended → old.ended ≡ false → Consumes left left old new x
consumes-front left old new x e at same waits = record {
  given = gave_front left old new x e;
  here = at;
  settled = settled_front left old new x e same;
  over = λ ended. absurd (false≢true (sym waits ∙ ended));
}

-- ---- what is kept of a line

-- more of it
pub kept-append : (kept bytes : List ℕ) (room count : ℕ) → length kept + room ≡ kept_len → count ≡ min room (length bytes) → kept ++ take count bytes ≡ kept_of (kept ++ bytes)
kept-append kept bytes room count fits is =
    ap (λ n. kept ++ take n bytes) is
    ∙ (ap (λ l. kept ++ l) (take_min room bytes)
    ∙ (sym (take-append-add kept bytes room) ∙ ap (λ n. take n (kept ++ bytes)) fits))

-- kept twice
pub kept-again : (xs ys : List ℕ) → kept_of (kept_of xs ++ ys) ≡ kept_of (xs ++ ys)
kept-again xs ys = taken_again kept_len xs ys
  where
    taken_again : (n : ℕ) (xs ys : List ℕ) → take n (take n xs ++ ys) ≡ take n (xs ++ ys)
    taken_again zero xs ys = refl
    taken_again (suc n) [] ys = refl
    taken_again (suc n) (x ∷ xs) ys = ap (λ l. x ∷ l) (taken_again n xs ys)

-- a range without its first bytes
pub range-drop : (xs : List ℕ) (from to count : ℕ) → count ≤ to - from → slice_range xs (from + count) to ≡ drop count (slice_range xs from to)
range-drop xs from to count within =
    let m = to - (from + count) in
    let lengths : to - from ≡ count + m = omega arith in
    sym (ap (λ n. drop count (take n (drop from xs))) lengths
    ∙ (drop-take count m (drop from xs) ∙ ap (λ l. take m l) (drop-drop count from xs)))

pub range-within : (xs : List ℕ) (from to count : ℕ) → count ≤ length (slice_range xs from to) → count ≤ to - from
range-within xs from to count short = omega (arith, short, length-take (to - from) (drop from xs))

-- ---- a line, piece by piece

pub part-fed : {old new : Ahead} {kept keeps : List ℕ} (bytes : List ℕ) (at : ℕ) → bytes ≡ old.bytes → IsFeedAt bytes at → new.bytes ≡ drop (at + 1) old.bytes → new.at ≡ old.at + (at + 1) → new.ended ≡ old.ended → keeps ≡ kept_of (kept ++ take at bytes) → TakesPart old new kept keeps true
part-fed {old} {new} bytes at same feed rest here still keeps =
    reading.fed (take at bytes) feed.plain
    (sym same ∙ (feed.split ∙ ap (λ l. take at bytes ++ line_feed ∷ l) (ap (λ l. drop (at + 1) l) same ∙ sym rest)))
    (omega (arith, here, length-take-le at bytes (omega (arith, feed.within)))) still keeps

pub part-all : {old new : Ahead} {kept keeps : List ℕ} (bytes : List ℕ) → bytes ≡ old.bytes → Each (λ b. b ≢ line_feed) bytes → new.bytes ≡ drop (length bytes) old.bytes → new.at ≡ old.at + length bytes → new.ended ≡ old.ended → keeps ≡ kept_of (kept ++ bytes) → TakesPart old new kept keeps false
part-all {old} {new} {kept} bytes same plain rest here still keeps =
    reading.all (subst (λ l. Each (λ b. b ≢ line_feed) l) same plain)
    (rest ∙ (ap (λ l. drop (length l) old.bytes) same ∙ drop_all (length old.bytes) old.bytes (omega arith)))
    (here ∙ ap (λ l. old.at + length l) same) still
    (keeps ∙ ap (λ l. kept_of (kept ++ l)) same)

-- these bytes of the line came so far, none of which is a line feed
pub record IsLineSoFar (before now : Option (List ℕ)) (old new : Ahead) (kept : List ℕ) (begun : Bool) : Type 0 where
  pub whole : List ℕ
  pub consumes : Consumes before now old new whole
  pub plain : Each (λ b. b ≢ line_feed) whole
  pub keeps : kept ≡ kept_of whole
  pub none : begun ≡ false → whole ≡ []
  pub some : begun ≡ true → whole ≢ []

pub line-start : (left : Option (List ℕ)) (ahead : Ahead) (kept : List ℕ) → kept ≡ [] → IsLineSoFar left left ahead ahead kept false
line-start left ahead kept none = record {
  whole = [];
  consumes = consumes-nothing left ahead;
  plain = tt;
  keeps = none;
  none = λ e. refl;
  some = λ e. absurd (false≢true e);
}

-- a piece without a line feed
pub line-more : {p q r : Option (List ℕ)} {a b c d : Ahead} {kept keeps : List ℕ} {begun : Bool} → IsLineSoFar p q a b kept begun → Consumes q r b c [] → c.bytes ≢ [] → c.ended ≡ false → TakesPart c d kept keeps false → IsLineSoFar p r a d keeps true
line-more {p} {q} {r} {a} {b} {c} {d} {kept} {keeps} so_far fills waits goes_on (reading.all each nothing at same is) =
    record {
      whole = so_far.whole ++ c.bytes;
      consumes =
          consumes-join so_far.consumes
          (consumes-join fills (consumes-front r c d c.bytes (sym (append-nil c.bytes) ∙ ap (λ l. c.bytes ++ l) (sym nothing)) at same goes_on));
      plain = each-append (λ x. x ≢ line_feed) so_far.whole c.bytes so_far.plain each;
      keeps = is ∙ (ap (λ l. kept_of (l ++ c.bytes)) so_far.keeps ∙ kept-again so_far.whole c.bytes);
      none = λ e. absurd (false≢true (sym e));
      some = λ e none. waits (behind_nothing so_far.whole c.bytes none);
    }

-- a piece with the line feed
pub line-fed : {p q r : Option (List ℕ)} {a b c d : Ahead} {kept keeps : List ℕ} {begun : Bool} → IsLineSoFar p q a b kept begun → Consumes q r b c [] → c.ended ≡ false → TakesPart c d kept keeps true → IsLineRead p r a d keeps
line-fed {p} {q} {r} {a} {b} {c} {d} {kept} {keeps} so_far fills goes_on (reading.fed part each split at same is) =
    record {
      line = so_far.whole ++ part;
      seen = so_far.whole ++ (part ++ line_feed ∷ []);
      consumes =
          consumes-join so_far.consumes
          (consumes-join fills (consumes-front r c d (part ++ line_feed ∷ []) (split ∙ sym (append_assoc part (line_feed ∷ []) d.bytes)) (at ∙ sym (ap (λ n. c.at + n) (length-append part (line_feed ∷ [])))) same goes_on));
      begins = λ rest may.
          fed plain
          (append_assoc so_far.whole (part ++ line_feed ∷ []) rest
          ∙ (ap (λ l. so_far.whole ++ l) (append_assoc part (line_feed ∷ []) rest)
          ∙ sym (append_assoc so_far.whole part (line_feed ∷ rest))));
      keeps = is ∙ (ap (λ l. kept_of (l ++ part)) so_far.keeps ∙ kept-again so_far.whole part);
      fed = λ e. sym (append_assoc so_far.whole part (line_feed ∷ []));
      plain = plain;
    }
  where
    plain : Each (λ x. x ≢ line_feed) (so_far.whole ++ part)
    plain = each-append (λ x. x ≢ line_feed) so_far.whole part so_far.plain each

-- the end of the input
pub line-end : {p q r : Option (List ℕ)} {a b c : Ahead} {kept : List ℕ} (begun : Bool) → IsLineSoFar p q a b kept begun → Consumes q r b c [] → c.ended ≡ true → ReadsLine p r a c kept begun
line-end {p} {q} {r} {a} {b} {c} true so_far fills ended =
    record {
      line = so_far.whole;
      seen = so_far.whole;
      consumes = subst (λ l. Consumes p r a c l) (append-nil so_far.whole) (consumes-join so_far.consumes fills);
      begins = λ rest may.
          unfed (subst (λ l. Each (λ x. x ≢ line_feed) (so_far.whole ++ l)) (sym (may ended)) (subst (λ l. Each (λ x. x ≢ line_feed) l) (sym (append-nil so_far.whole)) so_far.plain))
          (λ none. so_far.some refl (front_nothing so_far.whole rest none))
          (sym (append-nil so_far.whole) ∙ ap (λ l. so_far.whole ++ l) (sym (may ended)))
          (may ended);
      keeps = so_far.keeps;
      fed = λ e. absurd (false≢true (sym e ∙ ended));
      plain = so_far.plain;
    }
line-end {p} {q} {r} {a} {b} {c} false so_far fills ended =
    record {
      consumes = subst (λ l. Consumes p r a c l) (append-nil so_far.whole ∙ so_far.none refl) (consumes-join so_far.consumes fills);
      ended = ended;
    }

-- no more bytes come
pub line-broken : {p q r : Option (List ℕ)} {a b c : Ahead} {kept : List ℕ} {begun : Bool} → IsLineSoFar p q a b kept begun → Consumes q r b c [] → c.ended ≡ false → IsLineBegun p r a c
line-broken {p} {q} {r} {a} {b} {c} so_far fills goes_on =
    record {
      part = so_far.whole;
      consumes = subst (λ l. Consumes p r a c l) (append-nil so_far.whole) (consumes-join so_far.consumes fills);
      plain = so_far.plain;
      still_open = goes_on;
    }

-- ---- what a truth value tells

pub when_true : (P Q : Type 0) {b : Bool} → b ≡ true → MatchBool b P Q → P
when_true P Q e m = subst (λ t. MatchBool t P Q) e m

pub when_false : (P Q : Type 0) {b : Bool} → b ≡ false → MatchBool b P Q → Q
when_false P Q e m = subst (λ t. MatchBool t P Q) e m

-- ---- behind a payload

pub feed-taken : {p q : Option (List ℕ)} {a b c : Ahead} (bytes : List ℕ) → bytes ≡ b.bytes → Consumes p q a b [] → b.bytes ≢ [] → b.ended ≡ false → c.bytes ≡ drop 1 b.bytes → c.at ≡ b.at + 1 → c.ended ≡ b.ended → TakesFeed p q a c (nat_eq (slice_index_or bytes 0 0) 10)
feed-taken [] same fills some goes_on rest at still = absurd (some (sym same))
feed-taken {p} {q} {a} {b} {c} (x ∷ xs) same fills some goes_on rest at still = by_test (nat_eq x 10) refl
  where
    takes : Consumes p q a c (x ∷ [])
    takes =
        consumes-join fills
        (consumes-front q b c (x ∷ []) (sym same ∙ ap (λ l. x ∷ l) (sym (rest ∙ ap (λ l. drop 1 l) (sym same)))) at still goes_on)

    by_test : (t : Bool) → nat_eq x 10 ≡ t → TakesFeed p q a c (nat_eq x 10)
    by_test true e = subst (λ t. TakesFeed p q a c t) (sym e) (line_end (subst (λ n. Consumes p q a c (n ∷ [])) (eqb-true x 10 e) takes))
    by_test false e = subst (λ t. TakesFeed p q a c t) (sym e) (another x (λ is. false≢true (sym e ∙ eq-eqb x 10 is)) takes)
