pub mod ParameterValue
pub mod ParameterReading
pub mod ParameterFields
pub mod KeyValue
pub mod KeyReading
pub mod KeyFields
pub mod KeyRows
