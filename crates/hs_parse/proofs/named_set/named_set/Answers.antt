use Rattle.std.proofs.Common.{[], ◌∷◌, refl}
use Rattle.regex_class.specs.Ranges.{in_range, in_ranges}
use Rattle.hs_syntax.specs.declared.named.Named.TheVariants as named
use Rattle.hs_syntax.specs.Names.{is_of}
use Rattle.hs_parse.proofs.InsertLemmas.{has-digit, has-word, has-space, has-ranges}
use Rattle.hs_parse.proofs.named_set.named_set.Goals as goal

pub returns-in-Digit : goal.returns-in-Digit
returns-in-Digit c = has-digit c.args.class c.in-Digit.is

pub returns-in-Word : goal.returns-in-Word
returns-in-Word c = has-word c.args.class c.in-Word.is

pub returns-in-Space : goal.returns-in-Space
returns-in-Space c = has-space c.args.class c.in-Space.is

pub returns-in-HorizontalSpace : goal.returns-in-HorizontalSpace
unfolding in_range in_ranges is_of
returns-in-HorizontalSpace c =
    has-ranges c.set_of.result ((0x09, 0x09) ∷ (0x20, 0x20) ∷ (0xA0, 0xA0) ∷ []) named.HorizontalSpace c.args.class c.in-HorizontalSpace.is
    c.set_of.ensures refl

pub returns-in-VerticalSpace : goal.returns-in-VerticalSpace
unfolding in_range in_ranges is_of
returns-in-VerticalSpace c =
    has-ranges c.set_of-in-VerticalSpace.result ((0x0A, 0x0D) ∷ (0x85, 0x85) ∷ []) named.VerticalSpace c.args.class c.in-VerticalSpace.is
    c.set_of-in-VerticalSpace.ensures refl

pub returns-in-Letter : goal.returns-in-Letter
unfolding in_range in_ranges is_of
returns-in-Letter c =
    has-ranges c.set_of-in-Letter.result ((0x41, 0x5A) ∷ (0x61, 0x7A) ∷ []) named.Letter c.args.class c.in-Letter.is
    c.set_of-in-Letter.ensures refl

pub returns-in-SmallLetter : goal.returns-in-SmallLetter
unfolding in_range in_ranges is_of
returns-in-SmallLetter c =
    has-ranges c.set_of-in-SmallLetter.result ((0x61, 0x7A) ∷ []) named.SmallLetter c.args.class c.in-SmallLetter.is
    c.set_of-in-SmallLetter.ensures refl

pub returns-in-LargeLetter : goal.returns-in-LargeLetter
unfolding in_range in_ranges is_of
returns-in-LargeLetter c =
    has-ranges c.set_of-in-LargeLetter.result ((0x41, 0x5A) ∷ []) named.LargeLetter c.args.class c.in-LargeLetter.is
    c.set_of-in-LargeLetter.ensures refl

pub returns-in-LetterOrDigit : goal.returns-in-LetterOrDigit
unfolding in_range in_ranges is_of
returns-in-LetterOrDigit c =
    has-ranges c.set_of-in-LetterOrDigit.result ((0x30, 0x39) ∷ (0x41, 0x5A) ∷ (0x61, 0x7A) ∷ []) named.LetterOrDigit c.args.class c.in-LetterOrDigit.is
    c.set_of-in-LetterOrDigit.ensures refl

pub returns-in-HexadecimalDigit : goal.returns-in-HexadecimalDigit
unfolding in_range in_ranges is_of
returns-in-HexadecimalDigit c =
    has-ranges c.set_of-in-HexadecimalDigit.result ((0x30, 0x39) ∷ (0x41, 0x46) ∷ (0x61, 0x66) ∷ []) named.HexadecimalDigit c.args.class c.in-HexadecimalDigit.is
    c.set_of-in-HexadecimalDigit.ensures refl

pub returns-in-Blank : goal.returns-in-Blank
unfolding in_range in_ranges is_of
returns-in-Blank c =
    has-ranges c.set_of-in-Blank.result ((0x09, 0x09) ∷ (0x20, 0x20) ∷ []) named.Blank c.args.class c.in-Blank.is
    c.set_of-in-Blank.ensures refl

pub returns-in-Control : goal.returns-in-Control
unfolding in_range in_ranges is_of
returns-in-Control c =
    has-ranges c.set_of-in-Control.result ((0x00, 0x1F) ∷ (0x7F, 0x7F) ∷ []) named.Control c.args.class c.in-Control.is
    c.set_of-in-Control.ensures refl

pub returns-in-Ascii : goal.returns-in-Ascii
unfolding in_range in_ranges is_of
returns-in-Ascii c =
    has-ranges c.set_of-in-Ascii.result ((0x00, 0x7F) ∷ []) named.Ascii c.args.class c.in-Ascii.is
    c.set_of-in-Ascii.ensures refl

pub returns-in-Graphic : goal.returns-in-Graphic
unfolding in_range in_ranges is_of
returns-in-Graphic c =
    has-ranges c.set_of-in-Graphic.result ((0x21, 0x7E) ∷ []) named.Graphic c.args.class c.in-Graphic.is
    c.set_of-in-Graphic.ensures refl

pub returns-in-Printed : goal.returns-in-Printed
unfolding in_range in_ranges is_of
returns-in-Printed c =
    has-ranges c.set_of-in-Printed.result ((0x20, 0x7E) ∷ []) named.Printed c.args.class c.in-Printed.is
    c.set_of-in-Printed.ensures refl

pub returns-in-Punctuation : goal.returns-in-Punctuation
unfolding in_range in_ranges is_of
returns-in-Punctuation c =
    has-ranges c.set_of-in-Punctuation.result ((0x21, 0x2F) ∷ (0x3A, 0x40) ∷ (0x5B, 0x60) ∷ (0x7B, 0x7E) ∷ []) named.Punctuation c.args.class c.in-Punctuation.is
    c.set_of-in-Punctuation.ensures refl
