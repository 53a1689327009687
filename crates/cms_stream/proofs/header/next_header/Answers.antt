use Rattle.cms_stream.proofs.header.next_header.Goals as goal

pub heading-requires : goal.heading-requires
heading-requires c = c.in-Ok.ensures.there.1
