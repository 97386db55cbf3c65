use Rattle.zarrs_group.proofs.AsciiReads.{ascii_text_reads}
use Rattle.zarrs_group.proofs.ascii.ascii_document_text.Goals as goal

-- the bytes are a text of the value in ASCII, which is read as the value
pub returns-clause-text : goal.returns-clause-text
returns-clause-text c =
    let text = c.in-Some.text.items in
    let written = rw c.in-Some.is at c.in_ok-text.ensures.text in
    let ascii = c.in_ok-in_ascii.ensures in
    record {
      text = text;
      written = written;
      ascii = ascii;
      reads = rw (ascii) (ascii_text_reads text _ written);
    }
