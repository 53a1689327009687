-- The text of each reason why a content was not read.
use Rattle.std.specs.Prelude.{ℕ, List, codes}
use Rattle.digests.specs.declared.feeding.ContentFault.{ContentFault}
use Rattle.digests.specs.declared.feeding.ContentFault.TheVariants.{ReadFailed, ContentTooLong}

abbrev pub content_fault_text : ContentFault → List ℕ
content_fault_text ReadFailed = codes "the content can't be read"
content_fault_text ContentTooLong = codes "the content has more than 2^40 octets"
