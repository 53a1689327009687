-- The fields of a request as values, independent of their place in memory.
use Rattle.tsp_types.specs.declared.request.RequestFields.{RequestFields}
use Rattle.tsp_types.specs.RequestValue.{RequestValue}

abbrev pub fields_value : RequestFields → RequestValue
fields_value r = record {
  imprint = r.imprint;
  policy = r.policy;
  nonce = r.nonce;
  cert_req = r.cert_req;
  extensions = r.extensions;
}
