-- `show::put_bytes`: one text after another. Assumes nothing.
use Rattle.show.specs.Text.{bytes_text}
use Rattle.show.proofs.Puts.{put_both}
use Rattle.show.proofs.put_bytes.Goals as goal

pub returns : goal.returns
unfolding bytes_text
returns c =
    let from_signs = put_both c.put_field-signs.ensures (put_both c.put_field-filler.ensures c.put_line.ensures) in
    let from_counts = put_both c.put_field-counts.ensures (put_both c.put_field-data.ensures from_signs) in
    let from_packets = put_both c.put_field-packets.ensures (put_both c.put_field-significance.ensures from_counts) in
    put_both c.put_field-markers.ensures (put_both c.put_field-precincts.ensures from_packets)
