use Rattle.std.proofs.Common.{◌++◌, ◌∙◌, ap, map}
use Rattle.hs_base.specs.Entries.{listed}
use Rattle.hs_dbfile.specs.Files.{head_bytes, list_bytes}
use Rattle.hs_dbfile.proofs.writing.encode_file.Goals as goal

pub returns : goal.returns
returns c = record {
  writable = c.requires;
  widths = c.in_ok-append_list.ensures.widths;
  whole = c.in_ok-append_list.ensures.written ∙ ap (λ xs. xs ++ list_bytes (map listed c.args.entries.now)) (c.in_ok-extend_from_slice.ensures.items ∙ ap (λ xs. xs ++ head_bytes) c.new-bytes.ensures.items);
}
