-- A name that opens every definition: under `unfolding computing` a call on known bytes computes.
-- Assumes nothing.
use Rattle.spec.specs.Lists.{holds, upto, past, later_pieces, same, among}
use Rattle.spec.specs.Digits.{value_from, are_digits, leading, trailing, spell, places, written}
use Rattle.spec.specs.Refusals.{name_byte, name_bytes, good_name, id_byte, is_tc, id_bytes, good_id, too_large}
use Rattle.spec.specs.Lines.{join, text_at, line_text, later_lines, blank, comment, first_name, later_names, find, find_line, line_at, line_end, extent}
use Rattle.spec.specs.Files.{rising, good_ends, cut_at, contents, file_start, file_at, line_of, locate, find_from}
use Rattle.spec.specs.Strings.{emit, escaped, control, decode}
use Rattle.spec.specs.Fields.{
  names_of,
  grow,
  split,
  fields_of,
  with_colons,
  size,
  line_size,
  number_base,
  number_value,
  good_number,
  string_reading,
  content_reading,
  link_reading,
  named_reading,
  reading,
  is_ignored_field,
  all_ignored,
  judged,
  judge,
  verdict,
}
use Rattle.spec.specs.Chain.{visited, link_target, entered, follow, walk, placed, texts, joined_fields, first_names, described, resolve}
use Rattle.spec.specs.Lookup.{matches, lookup, can_win, hides, hidden, winning_after, winning, value_of, bytes_of}
use Rattle.spec.specs.Answers.{put}
use Rattle.spec.specs.Questions.{
  terminal_of,
  terminal_for,
  hit_answer,
  answer_for,
  flag_answer,
  number_answer,
  decoded_outcome,
  string_for,
  string_outcome,
  shown,
  show_answer,
}
use Rattle.spec.specs.Listing.{record_of, records, list_for, list_outcome, flat_text, flat_for, flat_outcome}
use Rattle.spec.specs.Batch.{batch_answer, batch_answers, batch_outcome}
use Rattle.spec.specs.Search.{line_names, names_in, file_names, all_names, counted, compared, search_answer}
use Rattle.spec.specs.Finder.{
  collect,
  matched_after,
  names_byte,
  line_byte,
  line_ends,
  joined_byte,
  unheld_byte,
  one_byte,
  fed,
  finished,
  opened_finder,
  open_refusal,
  feed_turn,
  feed_all,
  end_turn,
  finder_outcome,
}
use Rattle.spec.specs.Repair.{
  lines_of,
  own_bytes,
  is_dropped,
  left,
  pieces,
  field_reason,
  is_link,
  first_link,
  link_of,
  field_pieces,
  line_link,
  with_link,
  links_among,
  leads,
  comes_back,
  link_reason,
  removed_links,
  reason_at,
  link_removals,
  parts_from,
  parts_of,
  kept_bytes,
  all_kept,
  ends_in_backslash,
  closed,
  mended_line,
  part_records,
  mend_line,
  mend_lines,
  mended,
  descriptions,
  too_many_lines,
  flattened,
  put_mended,
  repair_outcome,
}
use Rattle.spec.specs.Values.{raised_from, raised, changed}
use Rattle.spec.specs.Sequences.{read_byte, perform}
use Rattle.spec.specs.Position.{repeated, compensations, fill_in, plain_of}
use Rattle.spec.specs.Padding.{tenths, prefix_of, pad_count}
use Rattle.spec.specs.Sending.{prepared, prepared_at, pads_of, delivered, send_outcome, send_at_outcome, fill_outcome, pad_outcome}

unfoldable pub computing : Unit {0}
unfolding holds upto past later_pieces same among value_from are_digits leading trailing spell places written name_byte name_bytes good_name id_byte
    is_tc id_bytes
    good_id too_large join text_at line_text later_lines blank comment first_name later_names find find_line line_at line_end extent rising good_ends
    cut_at contents
    file_start file_at line_of locate find_from emit escaped control decode names_of
    grow split fields_of with_colons size line_size number_base number_value good_number string_reading content_reading link_reading named_reading reading
    is_ignored_field all_ignored judged judge verdict visited link_target entered follow walk placed texts joined_fields first_names described
    resolve matches lookup
    can_win hides hidden winning_after winning value_of bytes_of put terminal_of terminal_for hit_answer answer_for flag_answer number_answer decoded_outcome
    string_for string_outcome shown show_answer record_of records list_for list_outcome flat_text flat_for flat_outcome batch_answer batch_answers
    batch_outcome
    line_names names_in file_names
    all_names counted compared search_answer collect matched_after names_byte line_byte line_ends joined_byte unheld_byte one_byte fed finished
    opened_finder open_refusal
    feed_turn feed_all end_turn finder_outcome lines_of own_bytes is_dropped left pieces
    field_reason is_link first_link link_of field_pieces line_link with_link links_among leads comes_back link_reason removed_links reason_at
    link_removals parts_from
    parts_of kept_bytes all_kept ends_in_backslash closed mended_line part_records mend_line mend_lines mended descriptions too_many_lines flattened
    put_mended
    repair_outcome raised_from raised changed read_byte perform
    repeated compensations fill_in plain_of tenths prefix_of pad_count prepared prepared_at pads_of delivered send_outcome send_at_outcome fill_outcome
    pad_outcome
computing = tt
