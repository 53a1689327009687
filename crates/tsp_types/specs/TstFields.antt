-- The parts of a TSTInfo as values, independent of their place in memory.
use Rattle.tsp_types.specs.declared.tst_info.TstFields.{TstFields}
use Rattle.tsp_types.specs.TstValue.{TstValue}

abbrev pub tst_value : TstFields → TstValue
tst_value r = record {
  policy = r.policy;
  imprint = r.imprint;
  serial = r.serial;
  time = r.time;
  accuracy = r.accuracy;
  ordering = r.ordering;
  nonce = r.nonce;
  tsa = r.tsa;
  extensions = r.extensions;
}
